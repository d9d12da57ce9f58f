-- Units as plain data.
use Rattle.std.specs.Prelude.{ℕ, List, Option, Some, None, map}
use Rattle.std.specs.Arc.{arc_value}
use Rattle.kumir_tree.specs.Tree.{Tree}
use Rattle.kumir_tree.specs.Unit.{Algorithm, Ending, Grown, Prelude, Faulty, Known}
use Rattle.kumir_tree.specs.Seen.{tree}
use Rattle.kumir_tree.specs.Parts.{head_of, some_head}
use Rattle.kumir_tree.specs.Blocks.{block_of}
use Rattle.kumir_tree.specs.declared.unit.Check.{Check}
use Rattle.kumir_tree.specs.declared.unit.UnitTree.{UnitTree}
use Rattle.kumir_tree.specs.declared.unit.Outcome.{Outcome}
use Rattle.kumir_tree.specs.declared.unit.Outcome.TheVariants as o
use Rattle.kumir_tree.specs.declared.unit.UnitRead.{UnitRead}
use Rattle.kumir_tree.specs.declared.unit.PlacedUnit.{PlacedUnit}

abbrev pub some_claim : Option Check → Option (ℕ × Tree)
some_claim None = None
some_claim (Some c) = Some (c.line, tree c.condition)

abbrev pub algorithm_of : UnitTree → Algorithm
algorithm_of u = record { head = head_of u.header; given = some_claim u.given; wanted = some_claim u.wanted; body = block_of u.body; close = u.close }

abbrev pub ending_of : Outcome → Ending
ending_of (o.Tree u) = Grown (algorithm_of u)
ending_of o.Prelude = Prelude
ending_of (o.Faults fs) = Faulty fs

abbrev pub known_of : UnitRead → Known
known_of r = record { head = some_head r.header; performers = r.performers; unknown = r.unknown; ending = ending_of r.outcome }

-- a unit with its first line
abbrev pub placed_of : PlacedUnit → ℕ × Known
placed_of u = (u.first, known_of (arc_value u.read))

abbrev pub units_of : List PlacedUnit → List (ℕ × Known)
units_of us = map placed_of us
