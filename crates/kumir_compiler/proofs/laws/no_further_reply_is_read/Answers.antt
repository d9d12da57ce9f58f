use Rattle.kumir_compiler.proofs.CommandsAnswered.{run_answered}
use Rattle.kumir_compiler.proofs.laws.no_further_reply_is_read.Goals as goal

pub returns : goal.returns
returns c = λ p inputs replies more n other. (run_answered p inputs replies n).settled other more
