use Rattle.machine_steps.proofs.EventSteps.{ends_so}
use Rattle.machine_steps.proofs.laws.last_event_ends_the_run.Goals as goal

pub returns : goal.returns
returns c = ends_so
