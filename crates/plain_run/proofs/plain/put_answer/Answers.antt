use Rattle.std.proofs.lemmas.Result.{on_ok_weaker}
use Rattle.transcript.specs.declared.entry.Entry.TheVariants as entry
use Rattle.plain_run.specs.Sessions.{kept_in}
use Rattle.plain_run.proofs.Carried.{puts_alone, puts_ask}
use Rattle.plain_run.proofs.plain.put_answer.Goals as goal

pub returns-in-Edit-clause-whole : goal.returns-in-Edit-clause-whole
returns-in-Edit-clause-whole g c = on_ok_weaker c.put_edit.result (λ put. puts_ask c.args.request.line c.args.request.ask _ (kept_in c.args.session.now) (kept_in c.put_edit.new.session) (g.O.Sink.state c.args.output.now) (g.O.Sink.state c.put_edit.new.output) c.in-Edit.is put) c.put_edit.ensures.whole

pub returns-in-Field-clause-whole : goal.returns-in-Field-clause-whole
returns-in-Field-clause-whole g c = on_ok_weaker c.put_field.result (λ put. puts_ask c.args.request.line c.args.request.ask _ (kept_in c.args.session.now) (kept_in c.put_field.new.session) (g.O.Sink.state c.args.output.now) (g.O.Sink.state c.put_field.new.output) c.in-Field.is put) c.put_field.ensures.whole

pub returns-in-Run-clause-whole : goal.returns-in-Run-clause-whole
returns-in-Run-clause-whole g c = on_ok_weaker c.put_next_run.result (λ put. puts_ask c.args.request.line c.args.request.ask _ (kept_in c.args.session.now) (kept_in c.put_next_run.new.session) (g.O.Sink.state c.args.output.now) (g.O.Sink.state c.put_next_run.new.output) c.in-Run.is put) c.put_next_run.ensures.whole

pub returns-in-Stop-clause-whole : goal.returns-in-Stop-clause-whole
returns-in-Stop-clause-whole g c = on_ok_weaker c.put_entry.result (λ put. puts_ask c.args.request.line c.args.request.ask _ (kept_in c.args.session.now) (kept_in c.args.session.now) (g.O.Sink.state c.args.output.now) (g.O.Sink.state c.put_entry.new.output) c.in-Stop.is (puts_alone entry.StopIdle (kept_in c.args.session.now) (g.O.Sink.state c.args.output.now) (g.O.Sink.state c.put_entry.new.output) put)) c.put_entry.ensures.whole

pub returns-in-Wait-clause-whole : goal.returns-in-Wait-clause-whole
returns-in-Wait-clause-whole g c = on_ok_weaker c.put_entry-in-Wait.result (λ put. puts_ask c.args.request.line c.args.request.ask _ (kept_in c.args.session.now) (kept_in c.args.session.now) (g.O.Sink.state c.args.output.now) (g.O.Sink.state c.put_entry-in-Wait.new.output) c.in-Wait.is (puts_alone entry.Waited (kept_in c.args.session.now) (g.O.Sink.state c.args.output.now) (g.O.Sink.state c.put_entry-in-Wait.new.output) put)) c.put_entry-in-Wait.ensures.whole

pub returns-in-Bad-clause-whole : goal.returns-in-Bad-clause-whole
returns-in-Bad-clause-whole g c = on_ok_weaker c.put_entry-in-Bad.result (λ put. puts_ask c.args.request.line c.args.request.ask _ (kept_in c.args.session.now) (kept_in c.args.session.now) (g.O.Sink.state c.args.output.now) (g.O.Sink.state c.put_entry-in-Bad.new.output) c.in-Bad.is (puts_alone (entry.Bad c.args.request.line) (kept_in c.args.session.now) (g.O.Sink.state c.args.output.now) (g.O.Sink.state c.put_entry-in-Bad.new.output) put)) c.put_entry-in-Bad.ensures.whole
