use Rattle.std.proofs.Common.{refl, ◌∙◌, [], ◌∷◌, ◌++◌}
use Rattle.plain_run.specs.Sessions.{kept_in}
use Rattle.plain_run.proofs.Carried.{puts_nothing, puts_next, next_waiting, still_few}
use Rattle.plain_run.proofs.plain.put_answers.Goals as goal

pub loop-request-init : goal.loop-request-init
loop-request-init g c = record { done = []; rest = c.in_ok-waiting.ensures; put = puts_nothing (kept_in c.args.session.now) (g.O.Sink.state c.args.output.now); session = c.requires.session; stood = refl }

pub put_answer-requires-clause-few : goal.put_answer-requires-clause-few
put_answer-requires-clause-few g c =
    let before = c.loop-request.invariant in
    still_few c.args.requests before.done c.loop-request.waiting c.in-Some.request c.pop.new.self (kept_in c.args.session.now) (kept_in c.loop-request.session) (g.O.Sink.state c.args.output.now) (g.O.Sink.state c.loop-request.output) 4294967295 before.rest c.in-Some.ensures before.put c.requires.few

pub loop-request-preserved : goal.loop-request-preserved
loop-request-preserved g c =
    let before = c.loop-request.invariant in
    record {
      done = before.done ++ c.in-Some.request ∷ [];
      rest = next_waiting c.args.requests before.done c.loop-request.waiting c.in-Some.request c.pop.new.self before.rest c.in-Some.ensures;
      put = puts_next before.done c.in-Some.request (kept_in c.args.session.now) (kept_in c.loop-request.session) (kept_in c.put_answer.new.session) (g.O.Sink.state c.args.output.now) (g.O.Sink.state c.loop-request.output) (g.O.Sink.state c.put_answer.new.output) before.put c.in_ok-put_answer.ensures.whole;
      session = c.in_ok-put_answer.ensures.session;
      stood = c.in_ok-put_answer.ensures.cause ∙ before.stood;
    }
