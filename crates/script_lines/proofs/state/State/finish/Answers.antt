use Rattle.std.proofs.Common.{◌≡◌, ◌+◌, length, refl, sym, ap, ◌∙◌, arith, rules}
use Rattle.std.proofs.lemmas.Bool.Decides.{nat_tests}
use Rattle.std.proofs.lemmas.List.{nil_from_length}
use Rattle.script_lines.specs.Lines.{numbered, ended_lines}
use Rattle.script_lines.specs.Begun.{begun_in, left_by}
use Rattle.script_lines.specs.Reader.{answered}
use Rattle.script_lines.proofs.States.{number_short, last_line_all, gathered_room, requests_empty, finish_some, finish_none, last_kept, last_line}
use Rattle.script_lines.proofs.state.State.finish.Goals as goal

pub returns-then-is_empty : goal.returns-then-is_empty
returns-then-is_empty c =
    let s = c.args.self in
    let same = ap length c.as_slice-line.ensures.value in
    let test = c.is_empty.ensures in
    let empty : length s.line.items ≡ 0 = grind (arith, nat_tests) in
    requests_empty s _ c.requires.state (nil_from_length s.line.items empty) (c.cut_off.ensures (begun_in 1 0 (ended_lines s.fed)) c.requires.state.begun)

pub overflow_add-number : goal.overflow_add-number
overflow_add-number c = let short = number_short c.args.self c.requires.state in let room = c.requires.room in search rules

pub overflow_add-number-2 : goal.overflow_add-number-2
overflow_add-number-2 c = let short = number_short c.args.self c.requires.state in let room = c.requires.room in search rules

pub take_line-requires-clause-ended : goal.take_line-requires-clause-ended
take_line-requires-clause-ended c =
    last_line_all c.args.self c.numbered.result.now (c.args.self.number + 1) c.requires.state (c.numbered.ensures ∙ ap (numbered (c.args.self.number + 1)) c.as_slice-line.ensures.value)

pub take_line-requires-clause-room : goal.take_line-requires-clause-room
take_line-requires-clause-room c = gathered_room c.args.self c.args.self.gathered c.requires.state c.requires.room refl

pub returns-in-Some : goal.returns-in-Some
returns-in-Some c =
    let s = c.args.self in
    let same = ap length c.as_slice-line.ensures.value in
    let test = c.is_empty.ensures in
    let kept = last_kept s c.numbered.result.now c.requires.state (c.numbered.ensures ∙ ap (numbered (s.number + 1)) c.as_slice-line.ensures.value) in
    finish_some s c.in-Some.request c.requires.state (grind (arith, nat_tests))
    (ap answered (sym c.in-Some.is) ∙ c.in_ok-request.ensures.request (begun_in 1 0 (ended_lines s.fed)) (last_line s) c.requires.state.begun kept)

pub returns : goal.returns
returns c =
    let s = c.args.self in
    let same = ap length c.as_slice-line.ensures.value in
    let test = c.is_empty.ensures in
    let kept = last_kept s c.numbered.result.now c.requires.state (c.numbered.ensures ∙ ap (numbered (s.number + 1)) c.as_slice-line.ensures.value) in
    finish_none s _ c.requires.state (grind (arith, nat_tests))
    (ap answered (sym c.in-None.is) ∙ c.in_ok-request.ensures.request (begun_in 1 0 (ended_lines s.fed)) (last_line s) c.requires.state.begun kept)
    (c.cut_off-in-None.ensures (left_by (s.number + 1) (begun_in 1 0 (ended_lines s.fed)) (last_line s)) (c.in_ok-request.ensures.left (begun_in 1 0 (ended_lines s.fed)) (last_line s) c.requires.state.begun kept))
