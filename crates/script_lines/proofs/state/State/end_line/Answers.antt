use Rattle.std.proofs.Common.{◌+◌, refl, sym, ap, ◌∙◌, subst, arith, rules}
use Rattle.std.specs.Str.Lines.{strip_carriage_return}
use Rattle.script_lines.specs.Lines.{numbered, ended_lines}
use Rattle.script_lines.specs.Begun.{begun_in}
use Rattle.script_lines.specs.Reader.{Gathers}
use Rattle.script_lines.proofs.States.{number_short, ended_line_all, gathered_room, ended_state, ended_whole, ended_kept, line_begun}
use Rattle.script_lines.proofs.state.State.end_line.Goals as goal

pub overflow_add-number : goal.overflow_add-number
overflow_add-number c = let short = number_short c.args.self.now c.requires.state in let room = c.requires.room in search rules

pub take_line-requires-clause-ended : goal.take_line-requires-clause-ended
take_line-requires-clause-ended c =
    ended_line_all c.args.self.now c.numbered-line.result.now (c.args.self.now.number + 1) c.requires.state
    (c.numbered-line.ensures ∙ ap (numbered (c.args.self.now.number + 1)) (c.without_return.ensures ∙ ap strip_carriage_return c.deref.ensures.value))

pub take_line-requires-clause-room : goal.take_line-requires-clause-room
take_line-requires-clause-room c = gathered_room c.args.self.now c.take-gathered.result c.requires.state (let room = c.requires.room in omega arith) c.take-gathered.ensures.value

pub returns-clause-state : goal.returns-clause-state
returns-clause-state c =
    let s = c.args.self.now in
    let kept = ended_kept s c.numbered-line.result.now c.requires.state (c.numbered-line.ensures ∙ ap (numbered (s.number + 1)) (c.without_return.ensures ∙ ap strip_carriage_return c.deref.ensures.value)) in
    let gathers = subst (Gathers (begun_in 1 0 (ended_lines s.fed))) (sym c.take-gathered.ensures.value) c.requires.state.begun in
    ended_state s _ c.requires.state c.note.ensures c.clear.ensures.items refl (c.in_ok-request.ensures.left (begun_in 1 0 (ended_lines s.fed)) (line_begun s) gathers kept)

pub returns-clause-requests : goal.returns-clause-requests
returns-clause-requests c =
    let s = c.args.self.now in
    let kept = ended_kept s c.numbered-line.result.now c.requires.state (c.numbered-line.ensures ∙ ap (numbered (s.number + 1)) (c.without_return.ensures ∙ ap strip_carriage_return c.deref.ensures.value)) in
    let gathers = subst (Gathers (begun_in 1 0 (ended_lines s.fed))) (sym c.take-gathered.ensures.value) c.requires.state.begun in
    ended_whole s _ _ c.requires.state c.note.ensures (c.in_ok-request.ensures.request (begun_in 1 0 (ended_lines s.fed)) (line_begun s) gathers kept)
