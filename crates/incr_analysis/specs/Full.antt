-- The full analysis of a text: from all its lines at once, its units, and of these its margin. docs/LANGUAGE.md, "The margin".
use Rattle.std.specs.Prelude.{◌≡◌, ℕ, ◌+◌, ◌-◌, Bool, true, false, ◌||◌, List, [], ◌∷◌, Option, Some, None, slice_range}
use Rattle.kumir_tree.specs.Part.{Head, Formal}
use Rattle.kumir_tree.specs.Unit.{Known}
use Rattle.margins.specs.declared.margin.Mark.{Mark}
use Rattle.line_pieces.specs.declared.spans.LineSpan.{LineSpan}
use Rattle.line_pieces.specs.Spans.{AreSpans}
use Rattle.algo_parser.specs.Units.{UnitReads}
use Rattle.type_check.specs.Margin.{program_faults, IsMarginOf, first_head}

-- each unit belongs to its span, the first to that of the prelude
abbrev pub Along : (Bool → LineSpan → ℕ × Known → Type 0) → Bool → List LineSpan → List (ℕ × Known) → Type 0
Along P prelude [] [] = Unit {0}
Along P prelude [] (u ∷ units) = ⊥
Along P prelude (span ∷ spans) [] = ⊥
Along P prelude (span ∷ spans) (u ∷ units) = P prelude span u × Along P false spans units

-- the lines of a span
abbrev pub lines_in : List (List ℕ) → LineSpan → List (List ℕ)
lines_in lines span = slice_range lines (span.first - 1) (span.first - 1 + span.count)

-- what is read from the lines of a span; it stands at the first of them
pub record IsReadAt (lines : List (List ℕ)) (prelude : Bool) (span : LineSpan) (u : ℕ × Known) : Type 0 where
  pub place : u.0 ≡ span.first
  pub read : UnitReads (lines_in lines span) prelude u.1

-- the prelude and the units of a text
pub record AreUnits (lines : List (List ℕ)) (units : List (ℕ × Known)) : Type 0 where
  pub spans : List LineSpan
  pub parted : AreSpans lines spans
  pub read : Along (IsReadAt lines) true spans units

-- the margin of these units, which are those of the lines
pub record IsAnalysis (lines : List (List ℕ)) (units : List (ℕ × Known)) (margin : List Mark) : Type 0 where
  pub are_units : AreUnits lines units
  pub marked : IsMarginOf (program_faults units) margin

-- the full analysis of the lines of a text
abbrev pub Full : List (List ℕ) → List Mark → Type 0
Full lines margin = (units : List (ℕ × Known)) × IsAnalysis lines units margin

-- there is a first algorithm, and it has no parameters
abbrev pub is_empty : List Formal → Bool
is_empty [] = true
is_empty (p ∷ params) = false

abbrev pub takes_nothing : Option Head → Bool
takes_nothing None = false
takes_nothing (Some h) = is_empty h.params

abbrev pub has_main : List (ℕ × Known) → Bool
has_main units = takes_nothing (first_head units)

-- the prelude makes a performer known
abbrev pub knows_performer : List (ℕ × Known) → Bool
knows_performer [] = false
knows_performer (prelude ∷ units) = prelude.1.performers.robot || prelude.1.performers.pen
