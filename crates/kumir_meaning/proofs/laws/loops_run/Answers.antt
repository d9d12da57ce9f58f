use Rattle.kumir_meaning.proofs.Runs as runs
use Rattle.kumir_meaning.proofs.laws.loops_run.Goals as goal

pub returns : goal.returns
returns c = runs.loops_run
