use Rattle.kumir_meaning.proofs.Runs as runs
use Rattle.kumir_meaning.proofs.laws.steps_run.Goals as goal

pub returns : goal.returns
returns c = runs.steps_run
