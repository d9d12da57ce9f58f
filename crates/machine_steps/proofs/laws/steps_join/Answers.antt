use Rattle.machine_steps.proofs.EventSteps.{steps_to_none, steps_to_both}
use Rattle.machine_steps.proofs.laws.steps_join.Goals as goal

pub returns : goal.returns
returns c = record { none = steps_to_none; both = steps_to_both }
