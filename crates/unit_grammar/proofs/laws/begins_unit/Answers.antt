use Rattle.unit_grammar.proofs.Prefixes.{begins}
use Rattle.unit_grammar.proofs.laws.begins_unit.Goals as goal

pub returns : goal.returns
returns c = begins
