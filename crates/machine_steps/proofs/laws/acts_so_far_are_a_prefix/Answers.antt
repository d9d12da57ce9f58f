use Rattle.machine_steps.proofs.EventSteps.{so_far}
use Rattle.machine_steps.proofs.laws.acts_so_far_are_a_prefix.Goals as goal

pub returns : goal.returns
returns c = so_far
