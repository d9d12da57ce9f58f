use Rattle.std.proofs.Common.{refl}
use Rattle.std.proofs.lemmas.Result.{on_ok_weaker}
use Rattle.transcript.specs.declared.entry.Entry.TheVariants as entry
use Rattle.plain_run.proofs.Carried.{puts_refusal}
use Rattle.plain_run.proofs.plain.put_refusal.Goals as goal

pub returns-in-Range-clause-whole : goal.returns-in-Range-clause-whole
returns-in-Range-clause-whole g c = on_ok_weaker c.put_entry.result (λ put. puts_refusal entry.EditRange c.args.refusal (g.O.Sink.state c.args.output.now) (g.O.Sink.state c.put_entry.new.output) (λ edits e. rw c.in-Range.is (refl, refl)) put) c.put_entry.ensures.whole

pub returns-in-TooLong-clause-whole : goal.returns-in-TooLong-clause-whole
returns-in-TooLong-clause-whole g c = on_ok_weaker c.put_entry-in-TooLong.result (λ put. puts_refusal entry.EditLong c.args.refusal (g.O.Sink.state c.args.output.now) (g.O.Sink.state c.put_entry-in-TooLong.new.output) (λ edits e. rw c.in-TooLong.is (refl, refl)) put) c.put_entry-in-TooLong.ensures.whole

pub returns-in-TooMany-clause-whole : goal.returns-in-TooMany-clause-whole
returns-in-TooMany-clause-whole g c = on_ok_weaker c.put_entry-in-TooMany.result (λ put. puts_refusal entry.EditMany c.args.refusal (g.O.Sink.state c.args.output.now) (g.O.Sink.state c.put_entry-in-TooMany.new.output) (λ edits e. rw c.in-TooMany.is (refl, refl)) put) c.put_entry-in-TooMany.ensures.whole
