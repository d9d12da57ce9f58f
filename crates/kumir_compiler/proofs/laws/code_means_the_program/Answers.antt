use Rattle.kumir_compiler.proofs.ProgramsMean.{code_means}
use Rattle.kumir_compiler.proofs.laws.code_means_the_program.Goals as goal

pub returns : goal.returns
returns c = code_means
