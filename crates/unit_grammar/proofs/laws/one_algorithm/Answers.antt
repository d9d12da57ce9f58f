use Rattle.unit_grammar.proofs.Prefixes.{one_tree}
use Rattle.unit_grammar.proofs.laws.one_algorithm.Goals as goal

pub returns : goal.returns
returns c = one_tree
