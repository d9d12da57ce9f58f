use Rattle.std.proofs.Common.{◌≡◌, []}
use Rattle.machine_steps.specs.Progress.{StepsTo}
use Rattle.machine_steps.specs.Stages.{full_state_of, IsStage, size_of}
use Rattle.machine_steps.proofs.stops.run_on.Given as goal

abbrev pub invariant-loop-stop : goal.invariant-loop-stop
invariant-loop-stop l = record {
  stage : IsStage l.units l.stage;
  inputs : l.stage.inputs ≡ l.fn.stage.inputs;
  comes : StepsTo l.units (full_state_of l.units l.fn.stage) 0 [] [] (full_state_of l.units l.stage);
}

abbrev pub decreases-loop-stop : goal.decreases-loop-stop
decreases-loop-stop l = size_of l.stage
