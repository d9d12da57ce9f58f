use Rattle.kumir_compiler.proofs.CommandsAnswered.{run_answered}
use Rattle.kumir_compiler.proofs.laws.commands_are_answered.Goals as goal

pub returns : goal.returns
returns c = λ p inputs replies n other. (run_answered p inputs replies n).answered other
