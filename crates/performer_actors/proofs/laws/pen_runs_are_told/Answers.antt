use Rattle.performer_actors.proofs.RunsTold.{pen_runs}
use Rattle.performer_actors.proofs.laws.pen_runs_are_told.Goals as goal

pub returns : goal.returns
returns c = pen_runs
