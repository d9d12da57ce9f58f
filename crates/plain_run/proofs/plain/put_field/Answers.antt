use Rattle.std.proofs.Common.{refl, ap}
use Rattle.std.proofs.lemmas.Result.{on_ok_weaker}
use Rattle.std.specs.Prelude.{Err}
use Rattle.plain_run.specs.Sessions.{kept_in}
use Rattle.plain_run.proofs.Carried.{puts_field, puts_bad_field}
use Rattle.plain_run.proofs.plain.put_field.Goals as goal

pub returns-in-Ok-clause-whole : goal.returns-in-Ok-clause-whole
returns-in-Ok-clause-whole g c = on_ok_weaker c.put_entry.result (λ p. puts_field (kept_in c.args.session.now) _ c.args.lines c.in-Ok.field (g.O.Sink.state c.args.output.now) (g.O.Sink.state c.put_entry.new.output) c.in-Ok.ensures.field refl p) c.put_entry.ensures.whole

pub returns-in-Err-BadField-clause-whole : goal.returns-in-Err-BadField-clause-whole
returns-in-Err-BadField-clause-whole g c = on_ok_weaker c.put_entry-in-Err-BadField.result (λ p. puts_bad_field (kept_in c.args.session.now) c.args.lines c.in-Err-BadField.line (g.O.Sink.state c.args.output.now) (g.O.Sink.state c.put_entry-in-Err-BadField.new.output) (c.in-Err-BadField.ensures.bad c.in-Err-BadField.line (ap Err c.in-Err-BadField.field-0-is)) p) c.put_entry-in-Err-BadField.ensures.whole
