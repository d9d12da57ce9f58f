use Rattle.stack_code.proofs.Runs.{code_runs_as_shown}
use Rattle.stack_code.proofs.laws.code_runs_as_shown.Goals as goal

pub returns : goal.returns
returns c = code_runs_as_shown
