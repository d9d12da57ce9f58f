use Rattle.std.proofs.Common.{refl}
use Rattle.machine_steps.specs.declared.stage.Stage.{Stage}
use Rattle.machine_steps.proofs.StepsReach.{begun_stage, begun_state}
use Rattle.machine_steps.proofs.steps.begin_run.Goals as goal

pub returns-clause-stage : goal.returns-clause-stage
returns-clause-stage c =
    let begun : Stage = record { running = c.in_ok-running.running; waiting = c.new.result; inputs = c.args.inputs; taken = 0 } in
    begun_stage c.args.units.now begun c.args.entry c.index-units-entry.result c.requires.valid c.requires.there c.index-units-entry.is c.in_ok-running.ensures.state c.in_ok-running.ensures.slots c.new.ensures.items

pub returns-clause-begin : goal.returns-clause-begin
returns-clause-begin c =
    let begun : Stage = record { running = c.in_ok-running.running; waiting = c.new.result; inputs = c.args.inputs; taken = 0 } in
    begun_state c.args.units.now begun c.args.entry c.in_ok-running.ensures.state c.new.ensures.items refl
