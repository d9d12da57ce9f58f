use Rattle.kumir_meaning.proofs.Runs as runs
use Rattle.kumir_meaning.proofs.laws.names_run.Goals as goal

pub returns : goal.returns
returns c = runs.names_run
