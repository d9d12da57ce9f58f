use Rattle.unit_grammar.proofs.OneEnding.{some_ending, one_ending}
use Rattle.unit_grammar.proofs.laws.one_ending.Goals as goal

pub returns-clause-some : goal.returns-clause-some
returns-clause-some c = some_ending

pub returns-clause-only : goal.returns-clause-only
returns-clause-only c = one_ending
