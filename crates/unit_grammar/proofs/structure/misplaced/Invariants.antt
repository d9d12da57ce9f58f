use Rattle.std.proofs.Common.{map, take}
use Rattle.unit_grammar.specs.Reading.{placed_of}
use Rattle.unit_grammar.specs.Grammar.{IsPrelude}
use Rattle.unit_grammar.proofs.structure.misplaced.Given as goal

abbrev pub invariant-loop-placed : goal.invariant-loop-placed
invariant-loop-placed l = IsPrelude (map placed_of (take l.placed-index l.forms))
