use Rattle.std.proofs.Common.{◌<◌, ◌-◌, ◌∙◌, length, subst, sym, ap, Ok}
use Rattle.std.specs.Prelude.{All}
use Rattle.stack_code.specs.Instructions.{unit_at, copied_to_places}
use Rattle.machine_steps.specs.States.{slots_of}
use Rattle.machine_steps.specs.Returns.{GivesBack}
use Rattle.machine_steps.specs.Frames.{places_in, line_of, frames_of, state_in}
use Rattle.machine_steps.proofs.ValidCalls.{callee_is, params_there, left_on, left_last, left_here, left_past, last_waits, others_wait}
use Rattle.machine_steps.proofs.enter.leave.Goals as goal

pub go_back-requires-clause-params : goal.go_back-requires-clause-params
go_back-requires-clause-params c =
    let is = callee_is c.args.units.now c.args.running.now.unit c.index-units-running.result c.index-units-running.is c.requires.here.unit in
    subst (λ ps. All (λ p. p.slot < length c.args.running.now.slots) ps) (sym (c.as_slice.ensures ∙ ap (λ u. u.params) is))
    (subst (λ n. All (λ p. p.slot < n) (unit_at c.args.units.now c.args.running.now.unit).params) (sym c.requires.here.slots)
    (params_there c.args.units.now c.args.running.now.unit c.requires.valid c.requires.here.unit))

pub go_back-requires-clause-waits : goal.go_back-requires-clause-waits
go_back-requires-clause-waits c = last_waits c.args.units.now c.args.waiting.now.items c.last_waiting.new.waiting.items c.in-Some.caller c.requires.waits c.in-Some.ensures

pub returns-in_ok-go_back-in-Some-clause-acts : goal.returns-in_ok-go_back-in-Some-clause-acts
returns-in_ok-go_back-in-Some-clause-acts c =
    let is = callee_is c.args.units.now c.args.running.now.unit c.index-units-running.result c.index-units-running.is c.requires.here.unit in
    left_on c.args.units.now c.args.running.now c.go_back.new.running c.in-Some.caller c.args.waiting.now.items c.last_waiting.new.waiting.items (unit_at c.args.units.now c.args.running.now.unit).gives (unit_at c.args.units.now c.args.running.now.unit).params c.args.line c.in-Ok.answer
    (subst (λ u. GivesBack u.gives (slots_of c.args.running.now.slots) (Ok c.in-Ok.answer)) is c.in-Ok.ensures) c.in-Some.ensures
    c.in_ok-go_back-in-Some.ensures.unit c.in_ok-go_back-in-Some.ensures.place c.in_ok-go_back-in-Some.ensures.operands
    (c.in_ok-go_back-in-Some.ensures.slots ∙ ap (λ ps. copied_to_places ps (places_in (line_of c.args.units.now c.in-Some.caller (c.in-Some.caller.pc - 1))) (slots_of c.args.running.now.slots) (slots_of c.in-Some.caller.slots)) (c.as_slice.ensures ∙ ap (λ u. u.params) is))
    c.in_ok-go_back-in-Some.ensures.used

pub returns-in_ok-go_back-in-Some-clause-here : goal.returns-in_ok-go_back-in-Some-clause-here
returns-in_ok-go_back-in-Some-clause-here c =
    left_here c.args.units.now c.go_back.new.running c.in-Some.caller (last_waits c.args.units.now c.args.waiting.now.items c.last_waiting.new.waiting.items c.in-Some.caller c.requires.waits c.in-Some.ensures)
    c.in_ok-go_back-in-Some.ensures.unit c.in_ok-go_back-in-Some.ensures.count

pub returns-in_ok-go_back-in-Some-clause-past : goal.returns-in_ok-go_back-in-Some-clause-past
returns-in_ok-go_back-in-Some-clause-past c =
    left_past c.args.units.now c.go_back.new.running c.in-Some.caller c.requires.valid (last_waits c.args.units.now c.args.waiting.now.items c.last_waiting.new.waiting.items c.in-Some.caller c.requires.waits c.in-Some.ensures)
    c.in_ok-go_back-in-Some.ensures.unit c.in_ok-go_back-in-Some.ensures.place

pub returns-in_ok-go_back-in-Some-clause-waits : goal.returns-in_ok-go_back-in-Some-clause-waits
returns-in_ok-go_back-in-Some-clause-waits c = others_wait c.args.units.now c.args.waiting.now.items c.last_waiting.new.waiting.items c.in-Some.caller c.requires.waits c.in-Some.ensures

pub returns-in-None-clause-acts : goal.returns-in-None-clause-acts
returns-in-None-clause-acts c =
    let is = callee_is c.args.units.now c.args.running.now.unit c.index-units-running.result c.index-units-running.is c.requires.here.unit in
    left_last (unit_at c.args.units.now c.args.running.now.unit).gives (unit_at c.args.units.now c.args.running.now.unit).params c.args.line (state_in c.args.units.now c.args.running.now c.args.waiting.now.items) _ c.in-Ok.answer
    (subst (λ u. GivesBack u.gives (slots_of c.args.running.now.slots) (Ok c.in-Ok.answer)) is c.in-Ok.ensures) (ap (frames_of c.args.units.now) c.in-None.ensures.0)
