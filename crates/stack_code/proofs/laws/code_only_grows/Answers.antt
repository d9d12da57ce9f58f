use Rattle.stack_code.proofs.Traces.{only_grows}
use Rattle.stack_code.proofs.laws.code_only_grows.Goals as goal

pub returns : goal.returns
returns c = only_grows
