use Rattle.machine_steps.proofs.CarriedSteps.{carried_steps_to}
use Rattle.machine_steps.proofs.laws.what_is_carried_out_steps_to.Goals as goal

pub returns : goal.returns
returns c = carried_steps_to
