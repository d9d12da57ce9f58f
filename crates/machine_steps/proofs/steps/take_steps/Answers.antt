use Rattle.std.proofs.Common.{◌∙◌, length, ap, subst, sym, refl}
use Rattle.stack_code.specs.Instructions.{unit_at}
use Rattle.machine_steps.specs.Frames.{IsReady, IsEntered}
use Rattle.machine_steps.proofs.ValidCalls.{callee_is, valid_here, ready}
use Rattle.machine_steps.specs.Reaching.{stepped}
use Rattle.machine_steps.proofs.QuickRuns.{step_first, step_first_needed, still_entered}
use Rattle.machine_steps.proofs.steps.take_steps.Goals as goal

pub go_quickly-more-requires-clause-ready : goal.go_quickly-more-requires-clause-ready
go_quickly-more-requires-clause-ready c =
    let r = c.take_step.new.running in
    let entered = subst (IsEntered c.args.units.now) (sym c.take_step.ensures) (still_entered c.args.units.now c.args.running.now (stepped c.args.running.now) c.requires.entered refl refl) in
    let is = callee_is c.args.units.now r.unit c.index-units-running.result c.index-units-running.is entered.unit in
    subst IsReady (sym is) (ready c.args.units.now (unit_at c.args.units.now r.unit) (valid_here c.args.units.now r c.requires.valid entered))

pub go_quickly-more-requires-clause-slots : goal.go_quickly-more-requires-clause-slots
go_quickly-more-requires-clause-slots c =
    let r = c.take_step.new.running in
    let entered = subst (IsEntered c.args.units.now) (sym c.take_step.ensures) (still_entered c.args.units.now c.args.running.now (stepped c.args.running.now) c.requires.entered refl refl) in
    let is = callee_is c.args.units.now r.unit c.index-units-running.result c.index-units-running.is entered.unit in
    entered.slots ∙ ap (λ u. length u.slots) (sym is)

pub returns-clause-comes : goal.returns-clause-comes
returns-clause-comes c =
    let r = c.take_step.new.running in
    let entered = subst (IsEntered c.args.units.now) (sym c.take_step.ensures) (still_entered c.args.units.now c.args.running.now (stepped c.args.running.now) c.requires.entered refl refl) in
    let is = callee_is c.args.units.now r.unit c.index-units-running.result c.index-units-running.is entered.unit in
    step_first c.args.units.now c.args.running.now r c.go_quickly-more.new.running c.go_quickly-more.result c.requires.step c.take_step.ensures (c.go_quickly-more.ensures.comes c.args.units.now (sym is))

pub returns-clause-needed : goal.returns-clause-needed
returns-clause-needed c =
    let r = c.take_step.new.running in
    let entered = subst (IsEntered c.args.units.now) (sym c.take_step.ensures) (still_entered c.args.units.now c.args.running.now (stepped c.args.running.now) c.requires.entered refl refl) in
    let is = callee_is c.args.units.now r.unit c.index-units-running.result c.index-units-running.is entered.unit in
    step_first_needed c.args.units.now c.args.running.now r c.go_quickly-more.result c.requires.step c.take_step.ensures (c.go_quickly-more.ensures.needed c.args.units.now (sym is))
