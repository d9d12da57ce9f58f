use Rattle.kumir_compiler.proofs.FaultlessPrograms.{compilable}
use Rattle.kumir_compiler.proofs.laws.faultless_is_compilable.Goals as goal

pub returns : goal.returns
returns c = compilable
