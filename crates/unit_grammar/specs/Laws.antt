-- How the reading of a unit or of a prelude ends is one only.
use Rattle.std.specs.Prelude.{◌≡◌, ◌≢◌, Bool, false, List, []}
use Rattle.kumir_tree.specs.Unit.{Ending}
use Rattle.unit_grammar.specs.Grammar.{Placed}
use Rattle.unit_grammar.specs.Structure.{StructureEnds}

-- the forms of a prelude, and those of a unit that has any, end in some way
abbrev pub EachEnds : Type 0
EachEnds = (prelude : Bool) (forms : List Placed) → (prelude ≡ false → forms ≢ []) → (ending : Ending) × StructureEnds prelude forms ending

-- and in no other one
abbrev pub OneEnding : Type 0
OneEnding = (prelude : Bool) (forms : List Placed) (d e : Ending) → StructureEnds prelude forms d → StructureEnds prelude forms e → d ≡ e
