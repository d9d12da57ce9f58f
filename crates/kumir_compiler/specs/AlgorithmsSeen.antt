-- Algorithms at their places in the text, as the meaning has them.
use Rattle.std.specs.Prelude.{ℕ, List, [], ◌∷◌, map, Option, Some, None}
use Rattle.km_base.specs.declared.performers.Performers.{Performers}
use Rattle.kumir_tree.specs.Units.{algorithm_of}
use Rattle.kumir_meaning.specs.Program.{Placed, Program}
use Rattle.kumir_compiler.specs.declared.placed.PlacedTree.{PlacedTree}

abbrev pub seen : PlacedTree → Placed
seen p = record { first = p.first; algorithm = algorithm_of p.tree.now }

abbrev pub some_seen : Option PlacedTree → List Placed
some_seen None = []
some_seen (Some p) = seen p ∷ []

-- the name of an algorithm
abbrev pub name_seen : PlacedTree → Option (List ℕ)
name_seen p = p.tree.now.header.name

-- the performers that are known, and the algorithms in the order of the text
pub record PlacedTrees : Type 0 where
  pub performers : Performers
  pub placed : List PlacedTree

abbrev pub program_seen : PlacedTrees → Program
program_seen a = record { performers = a.performers; algorithms = map seen a.placed }
