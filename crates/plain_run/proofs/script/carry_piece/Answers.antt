use Rattle.std.proofs.Common.{◌≡◌, ◌+◌, ◌++◌, take, drop, sym, ap, subst, ◌∙◌, length, arith}
use Rattle.std.proofs.lemmas.List.{length-take-le, take-append-le}
use Rattle.km_ports.specs.Ports.{TakesFrom}
use Rattle.script_lines.specs.Requests.{whole}
use Rattle.plain_run.proofs.Carried.{on_ok_here, if_ok_here}
use Rattle.plain_run.proofs.ScriptRuns.{answers_within}
use Rattle.plain_run.proofs.script.carry_piece.Goals as goal

pub returns-clause-carried : goal.returns-clause-carried
returns-clause-carried g c = λ fed told.
    let rest = drop (c.min-asked.result + 1) c.args.buffer.now in
    let same = take-append-le c.in_ok-count.count c.take.new.piece rest c.in_ok-count.ensures.within in (
      take c.in_ok-count.count (c.take.new.piece ++ rest),
      ap length same ∙ length-take-le _ _ c.in_ok-count.ensures.within,
      on_ok_here c.feed.result c.in_ok-requests.requests c.in_ok-requests.was (c.feed.ensures.fed fed told),
      record {
        taken = subst (TakesFrom (g.I.Source.state c.args.input.now) (g.I.Source.state c.take.new.self)) (sym same) c.in_ok-count.ensures.bytes;
        more = c.in_ok-requests.requests;
        are_more = if_ok_here (λ rs. whole (fed ++ take c.in_ok-count.count (c.take.new.piece ++ rest)) ≡ whole fed ++ rs) c.feed.result c.in_ok-requests.requests c.in_ok-requests.was (c.feed.ensures.requests fed told);
        put = c.in_ok-put_answers.ensures.whole;
      },
    )

pub put_answers-requires-clause-few : goal.put_answers-requires-clause-few
put_answers-requires-clause-few g c =
    let fed = c.requires.fed in
    let rest = drop (c.min-asked.result + 1) c.args.buffer.now in
    let same = take-append-le c.in_ok-count.count c.take.new.piece rest c.in_ok-count.ensures.within in
    let piece = take c.in_ok-count.count (c.take.new.piece ++ rest) in
    let size : length piece ≡ c.in_ok-count.count = ap length same ∙ length-take-le _ _ c.in_ok-count.ensures.within in
    let requests = if_ok_here (λ rs. whole (fed.0 ++ piece) ≡ whole fed.0 ++ rs) c.feed.result c.in_ok-requests.requests c.in_ok-requests.was (c.feed.ensures.requests fed.0 fed.1) in
    answers_within fed.0 piece c.in_ok-requests.requests c.args.session.now.runs.count c.args.room fed.2 (omega (arith, size, c.if-count-room.false)) fed.3 requests
