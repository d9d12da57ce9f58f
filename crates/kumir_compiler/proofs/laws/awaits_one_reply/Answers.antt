use Rattle.kumir_compiler.proofs.CommandsAnswered.{run_answered}
use Rattle.kumir_compiler.proofs.laws.awaits_one_reply.Goals as goal

pub returns : goal.returns
returns c = λ p inputs replies n e. (run_answered p inputs replies n).awaits e
