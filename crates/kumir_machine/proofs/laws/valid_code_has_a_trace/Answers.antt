use Rattle.kumir_machine.proofs.RunsExist.{has_a_trace}
use Rattle.kumir_machine.proofs.laws.valid_code_has_a_trace.Goals as goal

pub returns : goal.returns
returns c = has_a_trace
