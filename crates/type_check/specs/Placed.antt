-- Units with their first lines, without the pointers that share them.
use Rattle.std.specs.Prelude.{ℕ, List, map}
use Rattle.std.specs.Arc.{arc_value}
use Rattle.kumir_tree.specs.Unit.{Known}
use Rattle.kumir_tree.specs.Units.{known_of}
use Rattle.kumir_tree.specs.declared.unit.UnitRead.{UnitRead}
use Rattle.kumir_tree.specs.declared.unit.PlacedUnit.{PlacedUnit}

abbrev pub read_of : PlacedUnit → ℕ × UnitRead
read_of u = (u.first, arc_value u.read)

abbrev pub reads_of : List PlacedUnit → List (ℕ × UnitRead)
reads_of units = map read_of units

abbrev pub placed_read : ℕ × UnitRead → ℕ × Known
placed_read u = (u.0, known_of u.1)

-- the units as plain data
abbrev pub units_in : List (ℕ × UnitRead) → List (ℕ × Known)
units_in units = map placed_read units
