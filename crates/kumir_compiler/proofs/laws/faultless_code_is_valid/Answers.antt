use Rattle.kumir_compiler.proofs.ValidCode.{compiled_valid}
use Rattle.kumir_compiler.proofs.laws.faultless_code_is_valid.Goals as goal

pub returns : goal.returns
returns c = compiled_valid
