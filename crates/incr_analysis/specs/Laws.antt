-- A text has exactly one list of units, and exactly one full analysis.
use Rattle.std.specs.Prelude.{◌≡◌, ℕ, List}
use Rattle.kumir_tree.specs.Unit.{Known}
use Rattle.margins.specs.declared.margin.Mark.{Mark}
use Rattle.incr_analysis.specs.Full.{AreUnits, Full}

-- each list of lines has units
abbrev pub EachHasUnits : Type 0
EachHasUnits = (lines : List (List ℕ)) → (units : List (ℕ × Known)) × AreUnits lines units

-- and no other ones
abbrev pub OneListOfUnits : Type 0
OneListOfUnits = (lines : List (List ℕ)) (a b : List (ℕ × Known)) → AreUnits lines a → AreUnits lines b → a ≡ b

-- each list of lines has a margin that is its full analysis
abbrev pub EachHasAnalysis : Type 0
EachHasAnalysis = (lines : List (List ℕ)) → (margin : List Mark) × Full lines margin

-- and no other one
abbrev pub OneAnalysis : Type 0
OneAnalysis = (lines : List (List ℕ)) (a b : List Mark) → Full lines a → Full lines b → a ≡ b
