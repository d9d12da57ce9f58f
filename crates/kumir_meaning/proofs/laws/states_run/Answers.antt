use Rattle.kumir_meaning.proofs.Runs as runs
use Rattle.kumir_meaning.proofs.laws.states_run.Goals as goal

pub returns : goal.returns
returns c = runs.states_run
