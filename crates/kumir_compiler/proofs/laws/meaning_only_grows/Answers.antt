use Rattle.kumir_compiler.proofs.RunsGrow.{runs_grow}
use Rattle.kumir_compiler.proofs.laws.meaning_only_grows.Goals as goal

pub returns : goal.returns
returns c = runs_grow
