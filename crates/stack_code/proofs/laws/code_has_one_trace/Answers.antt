use Rattle.stack_code.proofs.Traces.{one_trace}
use Rattle.stack_code.proofs.laws.code_has_one_trace.Goals as goal

pub returns : goal.returns
returns c = one_trace
