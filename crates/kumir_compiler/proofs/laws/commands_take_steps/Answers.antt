use Rattle.kumir_compiler.proofs.CommandsAnswered.{run_answered}
use Rattle.kumir_compiler.proofs.laws.commands_take_steps.Goals as goal

pub returns : goal.returns
returns c = λ p inputs replies n. (run_answered p inputs replies n).steps
