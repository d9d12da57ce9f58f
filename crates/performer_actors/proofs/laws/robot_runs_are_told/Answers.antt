use Rattle.performer_actors.proofs.RunsTold.{robot_runs}
use Rattle.performer_actors.proofs.laws.robot_runs_are_told.Goals as goal

pub returns : goal.returns
returns c = robot_runs
