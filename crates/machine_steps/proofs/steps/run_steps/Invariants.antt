use Rattle.std.proofs.Common.{◌≡◌, ◌≤◌, ◌+◌, ◌-◌, []}
use Rattle.machine_steps.specs.Progress.{StepsTo}
use Rattle.machine_steps.specs.Stages.{full_state_of, IsStage}
use Rattle.machine_steps.specs.Reaching.{NeedsEach}
use Rattle.machine_steps.proofs.steps.run_steps.Given as goal

abbrev pub invariant-loop-stop : goal.invariant-loop-stop
invariant-loop-stop l = record {
  stage : IsStage l.units l.stage;
  inputs : l.stage.inputs ≡ l.fn.stage.inputs;
  steps : l.steps ≡ l.fn.steps + l.taken;
  few : l.taken ≤ l.most;
  within : l.steps ≤ l.budget;
  comes : StepsTo l.units (full_state_of l.units l.fn.stage) l.taken [] [] (full_state_of l.units l.stage);
  needed : NeedsEach l.units (full_state_of l.units l.fn.stage) l.taken;
}

abbrev pub decreases-loop-stop : goal.decreases-loop-stop
decreases-loop-stop l = l.most - l.taken
