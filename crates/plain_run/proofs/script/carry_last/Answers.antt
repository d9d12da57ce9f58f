use Rattle.std.proofs.lemmas.Result.{on_ok_weaker}
use Rattle.plain_run.specs.Sessions.{kept_in}
use Rattle.plain_run.proofs.Carried.{puts_last, puts_no_last}
use Rattle.plain_run.proofs.script.carry_last.Goals as goal

pub returns-in-Some-clause-whole : goal.returns-in-Some-clause-whole
returns-in-Some-clause-whole g c = λ fed told. on_ok_weaker c.put_answer.result (λ put. puts_last fed c.in_ok-last.last c.in-Some.request (kept_in c.args.session.now) (kept_in c.put_answer.new.session) (g.O.Sink.state c.args.output.now) (g.O.Sink.state c.put_answer.new.output) c.in-Some.is (c.in_ok-last.ensures.requests fed told) put) c.put_answer.ensures.whole

pub returns-in-None-clause-whole : goal.returns-in-None-clause-whole
returns-in-None-clause-whole g c = λ fed told. puts_no_last fed c.in_ok-last.last (kept_in c.args.session.now) (g.O.Sink.state c.args.output.now) c.in-None.is (c.in_ok-last.ensures.requests fed told)
