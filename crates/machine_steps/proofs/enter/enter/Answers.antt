use Rattle.std.proofs.Common.{◌<◌, ◌+◌, ◌∙◌, length, subst, sym, ap}
use Rattle.std.specs.Prelude.{All}
use Rattle.stack_code.specs.Instructions.{values_taken}
use Rattle.machine_steps.proofs.ValidCalls.{callee_within, callee_there, callee_is, params_there, entered_on, entered_not, entered_here, entered_waits, past_begin}
use Rattle.machine_steps.proofs.enter.enter.Goals as goal

pub bounds-units-number : goal.bounds-units-number
bounds-units-number c = callee_within c.args.units.now c.args.running.now c.args.running.now.pc c.args.number c.args.places.now c.requires.valid c.requires.here c.requires.call

pub begin_call-requires : goal.begin_call-requires
begin_call-requires c =
    let there = callee_there c.args.units.now c.args.running.now c.args.running.now.pc c.args.number c.args.places.now c.requires.valid c.requires.here c.requires.call in
    let is = callee_is c.args.units.now c.args.number c.index-units-number.result c.index-units-number.is there in
    subst (λ u. All (λ p. p.slot < length u.slots) u.params) (sym is) (params_there c.args.units.now c.args.number c.requires.valid there)

pub returns-in_ok-step_aside-in-Ok-clause-acts : goal.returns-in_ok-step_aside-in-Ok-clause-acts
returns-in_ok-step_aside-in-Ok-clause-acts c =
    let there = callee_there c.args.units.now c.args.running.now c.args.running.now.pc c.args.number c.args.places.now c.requires.valid c.requires.here c.requires.call in
    let is = callee_is c.args.units.now c.args.number c.index-units-number.result c.index-units-number.is there in
    let counted = c.count_operands-count.ensures ∙ ap (λ ps. values_taken ps c.args.places.now) c.as_slice-in-Ok.ensures in
    entered_on c.args.units.now c.args.running.now c.step_aside.new.running c.in-Ok.begun c.args.waiting.now.items c.step_aside.new.waiting.items c.index-units-number.result c.args.number c.args.line c.count_operands-count.result c.args.places.now c.in_ok-begun.field-0
    is (subst (λ xs. length xs + 1 < 1000) c.as_slice.ensures.value c.if-as_slice.false) c.in_ok-begun.ensures c.in-Ok.is c.requires.call counted c.in_ok-step_aside-in-Ok.ensures.running c.in_ok-step_aside-in-Ok.ensures.waiting

pub returns-in_ok-step_aside-in-Ok-clause-here : goal.returns-in_ok-step_aside-in-Ok-clause-here
returns-in_ok-step_aside-in-Ok-clause-here c =
    let there = callee_there c.args.units.now c.args.running.now c.args.running.now.pc c.args.number c.args.places.now c.requires.valid c.requires.here c.requires.call in
    let is = callee_is c.args.units.now c.args.number c.index-units-number.result c.index-units-number.is there in
    (entered_here c.args.units.now c.args.running.now c.step_aside.new.running c.in-Ok.begun c.index-units-number.result c.args.number c.args.places.now c.in_ok-begun.field-0 is there c.in_ok-begun.ensures c.in-Ok.is c.in_ok-step_aside-in-Ok.ensures.running).0

pub returns-in_ok-step_aside-in-Ok-clause-past : goal.returns-in_ok-step_aside-in-Ok-clause-past
returns-in_ok-step_aside-in-Ok-clause-past c =
    let there = callee_there c.args.units.now c.args.running.now c.args.running.now.pc c.args.number c.args.places.now c.requires.valid c.requires.here c.requires.call in
    let is = callee_is c.args.units.now c.args.number c.index-units-number.result c.index-units-number.is there in
    let begun = entered_here c.args.units.now c.args.running.now c.step_aside.new.running c.in-Ok.begun c.index-units-number.result c.args.number c.args.places.now c.in_ok-begun.field-0 is there c.in_ok-begun.ensures c.in-Ok.is c.in_ok-step_aside-in-Ok.ensures.running in
    past_begin c.args.units.now c.step_aside.new.running c.requires.valid begun.0 begun.1

pub returns-in_ok-step_aside-in-Ok-clause-waits : goal.returns-in_ok-step_aside-in-Ok-clause-waits
returns-in_ok-step_aside-in-Ok-clause-waits c =
    entered_waits c.args.units.now c.args.running.now c.args.waiting.now.items c.step_aside.new.waiting.items c.count_operands-count.result c.args.number c.args.places.now c.requires.here c.requires.call c.requires.waits c.in_ok-step_aside-in-Ok.ensures.waiting

pub returns-in-Err-clause-acts : goal.returns-in-Err-clause-acts
returns-in-Err-clause-acts c =
    let there = callee_there c.args.units.now c.args.running.now c.args.running.now.pc c.args.number c.args.places.now c.requires.valid c.requires.here c.requires.call in
    let is = callee_is c.args.units.now c.args.number c.index-units-number.result c.index-units-number.is there in
    entered_not c.args.units.now c.args.running.now c.args.waiting.now.items c.index-units-number.result c.args.number c.args.line c.args.places.now c.in_ok-begun.field-0 c.in-Err.fault _
    is (subst (λ xs. length xs + 1 < 1000) c.as_slice.ensures.value c.if-as_slice.false) c.in_ok-begun.ensures c.in-Err.is
