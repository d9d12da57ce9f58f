use Rattle.std.proofs.Common.{◌∙◌, length, drop, ap, subst, sym}
use Rattle.machine_steps.specs.Carried.{Onward}
use Rattle.machine_steps.specs.Frames.{frames_of, IsReady}
use Rattle.machine_steps.specs.Silent.{MovedToNonLocal, KeepsUnit}
use Rattle.machine_steps.specs.Stages.{full_state_of}
use Rattle.machine_steps.proofs.JumpsFit.{goes_on}
use Rattle.machine_steps.proofs.ValidCalls.{callee_is, valid_here, ready}
use Rattle.machine_steps.proofs.StagesStay.{turns_then, after_alone, stands_there}
use Rattle.stack_code.specs.Instructions.{unit_at}
use Rattle.machine_steps.proofs.stops.pass_non_local.Goals as goal

pub run_alone-requires-clause-ready : goal.run_alone-requires-clause-ready
run_alone-requires-clause-ready c =
    let is = callee_is c.args.units.now c.args.stage.now.running.unit c.index-units-stage.result c.index-units-stage.is c.requires.stage.entered.unit in
    subst IsReady (sym is) (ready c.args.units.now (unit_at c.args.units.now c.args.stage.now.running.unit) (valid_here c.args.units.now c.args.stage.now.running c.requires.valid c.requires.stage.entered))

pub run_alone-requires-clause-slots : goal.run_alone-requires-clause-slots
run_alone-requires-clause-slots c =
    let is = callee_is c.args.units.now c.args.stage.now.running.unit c.index-units-stage.result c.index-units-stage.is c.requires.stage.entered.unit in
    c.requires.stage.entered.slots ∙ ap (λ u. length u.slots) (sym is)

pub carry_out_non_local-requires-clause-stage : goal.carry_out_non_local-requires-clause-stage
carry_out_non_local-requires-clause-stage c =
    let is = callee_is c.args.units.now c.args.stage.now.running.unit c.index-units-stage.result c.index-units-stage.is c.requires.stage.entered.unit in
    after_alone c.args.units.now c.args.stage.now c.run_alone.new.running c.index-units-stage.result c.in_ok-run_alone.field-0 (ap goes_on c.in-Moved.is) c.requires.stage is c.run_alone.ensures.slots c.in_ok-run_alone.ensures.unit c.in_ok-run_alone.ensures.past

pub carry_out_non_local-requires-clause-stands : goal.carry_out_non_local-requires-clause-stands
carry_out_non_local-requires-clause-stands c =
    let is = callee_is c.args.units.now c.args.stage.now.running.unit c.index-units-stage.result c.index-units-stage.is c.requires.stage.entered.unit in
    stands_there c.args.units.now c.args.stage.now.running c.run_alone.new.running c.index-units-stage.result is
    (subst (λ a. KeepsUnit a c.args.stage.now.running c.run_alone.new.running) c.in-Moved.is c.in_ok-run_alone.ensures.unit)
    (subst (λ a. MovedToNonLocal c.index-units-stage.result a c.run_alone.new.running) c.in-Moved.is c.in_ok-run_alone.ensures.stands)

pub returns-in-Printed-clause-turns : goal.returns-in-Printed-clause-turns
returns-in-Printed-clause-turns c =
    let is = callee_is c.args.units.now c.args.stage.now.running.unit c.index-units-stage.result c.index-units-stage.is c.requires.stage.entered.unit in
    subst (λ a. Onward c.args.units.now (full_state_of c.args.units.now c.args.stage.now) a (full_state_of c.args.units.now (record c.args.stage.now { running = c.run_alone.new.running }))) c.in-Printed.is
    (c.in_ok-run_alone.ensures.goes c.args.units.now (sym is) (frames_of c.args.units.now c.args.stage.now.waiting.items) (drop c.args.stage.now.taken c.args.stage.now.inputs))

pub returns-in-Printed-clause-stage : goal.returns-in-Printed-clause-stage
returns-in-Printed-clause-stage c =
    let is = callee_is c.args.units.now c.args.stage.now.running.unit c.index-units-stage.result c.index-units-stage.is c.requires.stage.entered.unit in
    after_alone c.args.units.now c.args.stage.now c.run_alone.new.running c.index-units-stage.result c.in_ok-run_alone.field-0 (ap goes_on c.in-Printed.is) c.requires.stage is c.run_alone.ensures.slots c.in_ok-run_alone.ensures.unit c.in_ok-run_alone.ensures.past

pub returns-in-Told-clause-turns : goal.returns-in-Told-clause-turns
returns-in-Told-clause-turns c =
    let is = callee_is c.args.units.now c.args.stage.now.running.unit c.index-units-stage.result c.index-units-stage.is c.requires.stage.entered.unit in
    subst (λ a. Onward c.args.units.now (full_state_of c.args.units.now c.args.stage.now) a (full_state_of c.args.units.now (record c.args.stage.now { running = c.run_alone.new.running }))) c.in-Told.is
    (c.in_ok-run_alone.ensures.goes c.args.units.now (sym is) (frames_of c.args.units.now c.args.stage.now.waiting.items) (drop c.args.stage.now.taken c.args.stage.now.inputs))

pub returns-in-Told-clause-stage : goal.returns-in-Told-clause-stage
returns-in-Told-clause-stage c =
    let is = callee_is c.args.units.now c.args.stage.now.running.unit c.index-units-stage.result c.index-units-stage.is c.requires.stage.entered.unit in
    after_alone c.args.units.now c.args.stage.now c.run_alone.new.running c.index-units-stage.result c.in_ok-run_alone.field-0 (ap goes_on c.in-Told.is) c.requires.stage is c.run_alone.ensures.slots c.in_ok-run_alone.ensures.unit c.in_ok-run_alone.ensures.past

pub returns-in-Over-clause-turns : goal.returns-in-Over-clause-turns
returns-in-Over-clause-turns c =
    let is = callee_is c.args.units.now c.args.stage.now.running.unit c.index-units-stage.result c.index-units-stage.is c.requires.stage.entered.unit in
    subst (λ a. Onward c.args.units.now (full_state_of c.args.units.now c.args.stage.now) a (full_state_of c.args.units.now (record c.args.stage.now { running = c.run_alone.new.running }))) c.in-Over.is
    (c.in_ok-run_alone.ensures.goes c.args.units.now (sym is) (frames_of c.args.units.now c.args.stage.now.waiting.items) (drop c.args.stage.now.taken c.args.stage.now.inputs))

pub returns-in_ok-stop-in-Moved-clause-turns : goal.returns-in_ok-stop-in-Moved-clause-turns
returns-in_ok-stop-in-Moved-clause-turns c =
    let is = callee_is c.args.units.now c.args.stage.now.running.unit c.index-units-stage.result c.index-units-stage.is c.requires.stage.entered.unit in
    turns_then c.args.units.now (full_state_of c.args.units.now c.args.stage.now) (full_state_of c.args.units.now (record c.args.stage.now { running = c.run_alone.new.running })) (full_state_of c.args.units.now c.carry_out_non_local.new.stage) c.in_ok-stop-in-Moved.stop
    (subst (λ a. Onward c.args.units.now (full_state_of c.args.units.now c.args.stage.now) a (full_state_of c.args.units.now (record c.args.stage.now { running = c.run_alone.new.running }))) c.in-Moved.is
    (c.in_ok-run_alone.ensures.goes c.args.units.now (sym is) (frames_of c.args.units.now c.args.stage.now.waiting.items) (drop c.args.stage.now.taken c.args.stage.now.inputs)))
    c.in_ok-stop-in-Moved.ensures.turns
