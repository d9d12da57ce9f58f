-- The margin of a program. docs/LANGUAGE.md, "The margin".
use Rattle.std.specs.Prelude.{◌≡◌, ◌≤◌, ℕ, ◌+◌, List, [], ◌∷◌, ◌++◌, map, Option, None, Contains}
use Rattle.kumir_tree.specs.declared.unit.Fault.{Fault}
use Rattle.kumir_tree.specs.Part.{Head}
use Rattle.kumir_tree.specs.Unit.{Ending, Grown, Prelude, Faulty, Known}
use Rattle.margins.specs.declared.margin.Mark.{Mark}
use Rattle.margins.specs.Marks.{IsRising}
use Rattle.kumir_names.specs.Callees.{Callee}
use Rattle.type_rules.specs.Callees.{callee}
use Rattle.type_rules.specs.Counted.{headers_in, header_faults}
use Rattle.type_check.specs.Checked.{unit_faults}

-- ---- the faults of a program, on the lines of its text

abbrev pub on_line : ℕ → Fault → Fault
on_line first f = record { line = first + f.line; code = f.code }

-- the faults of a unit: those of its reading, or else those in its names and types
abbrev pub own_faults : (List ℕ → Option (Callee Head)) → Ending → List Fault
own_faults find (Grown a) = unit_faults find a
own_faults find Prelude = []
own_faults find (Faulty faults) = faults

-- and the performers that it does not know
abbrev pub placed_faults : (List ℕ → Option (Callee Head)) → ℕ × Known → List Fault
placed_faults find u = map (on_line u.0) (own_faults find u.1.ending) ++ map (on_line u.0) u.1.unknown

abbrev pub all_placed_faults : (List ℕ → Option (Callee Head)) → List (ℕ × Known) → List Fault
all_placed_faults find [] = []
all_placed_faults find (u ∷ units) = placed_faults find u ++ all_placed_faults find units

abbrev pub program_faults : List (ℕ × Known) → List Fault
program_faults units = all_placed_faults (callee (headers_in units)) units ++ header_faults units

-- ---- their margin

abbrev pub fault_of : Mark → Fault
fault_of m = record { line = m.line; code = m.code }

-- a mark on the line of the fault, with a code that is not larger
abbrev pub HasMark : List Mark → Fault → Type 0
HasMark marks f = (m : Mark) × Contains marks m × (m.line ≡ f.line) × (m.code ≤ f.code)

-- the marks on rising lines that have for each line with a fault its smallest code
pub record IsMarginOf (faults : List Fault) (marks : List Mark) : Type 0 where
  pub rising : IsRising marks
  pub stands : (m : Mark) → Contains marks m → Contains faults (fault_of m)
  pub least : (f : Fault) → Contains faults f → HasMark marks f

-- the header of the first algorithm
abbrev pub first_head : List (ℕ × Known) → Option Head
first_head [] = None
first_head (prelude ∷ []) = None
first_head (prelude ∷ (u ∷ units)) = u.1.head
