-- What is read of the lines of a unit or of a prelude is one only.
use Rattle.std.specs.Prelude.{◌≡◌, ℕ, Bool, false, List}
use Rattle.kumir_tree.specs.Unit.{Known}
use Rattle.line_pieces.specs.Spans.{FirstBegins}
use Rattle.algo_parser.specs.Units.{UnitReads}

-- something is read of the lines of a prelude, and of those of a unit, which the first of them begins
abbrev pub EachIsRead : Type 0
EachIsRead = (lines : List (List ℕ)) (prelude : Bool) → (prelude ≡ false → FirstBegins lines) → (known : Known) × UnitReads lines prelude known

-- and nothing else is
abbrev pub OneReading : Type 0
OneReading = (lines : List (List ℕ)) (prelude : Bool) (j k : Known) → UnitReads lines prelude j → UnitReads lines prelude k → j ≡ k
