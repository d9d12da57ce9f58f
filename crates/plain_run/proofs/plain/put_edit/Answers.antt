use Rattle.std.proofs.lemmas.Result.{on_ok_weaker}
use Rattle.plain_run.specs.Sessions.{kept_in}
use Rattle.plain_run.proofs.Carried.{puts_edit, puts_refused}
use Rattle.plain_run.proofs.plain.put_edit.Goals as goal

pub returns-in-Err-clause-whole : goal.returns-in-Err-clause-whole
returns-in-Err-clause-whole g c = on_ok_weaker c.put_refusal.result (λ put. puts_refused (kept_in c.args.session.now) c.apply.new.self c.args.edit c.in-Err.refusal (g.O.Sink.state c.args.output.now) (g.O.Sink.state c.put_refusal.new.output) c.in-Err.ensures.answer c.in-Err.ensures.refused put) c.put_refusal.ensures.whole

pub returns-in_ok-session-in-Ok-clause-whole : goal.returns-in_ok-session-in-Ok-clause-whole
returns-in_ok-session-in-Ok-clause-whole g c = on_ok_weaker c.put_margin.result (λ put. puts_edit (kept_in c.args.session.now) c.apply.new.self c.args.edit c.in-Ok.version (g.O.Sink.state c.args.output.now) (g.O.Sink.state c.put_entry.new.output) (g.O.Sink.state c.put_margin.new.output) c.in-Ok.ensures.answer c.in-Ok.ensures.accepted c.in_ok-put_entry-in-Ok.ensures.whole put) c.put_margin.ensures.whole
