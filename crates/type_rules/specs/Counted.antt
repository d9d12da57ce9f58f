-- Which headers of a program count, and the faults of the others. docs/LANGUAGE.md, "Headers".
use Rattle.std.specs.Prelude.{ℕ, ◌+◌, if◌then◌else◌, List, [], ◌∷◌, ◌++◌, Option, Some, None, is_some}
use Rattle.km_base.specs.declared.performers.Performers.{Performers}
use Rattle.kumir_tree.specs.Part.{Head}
use Rattle.kumir_tree.specs.Sound.{no_performers}
use Rattle.kumir_tree.specs.Unit.{Known}
use Rattle.kumir_tree.specs.declared.unit.Fault.{Fault}
use Rattle.kumir_tree.specs.declared.fault_codes.TheConstants.{NAME_TAKEN, WITHOUT_NAME}
use Rattle.type_rules.specs.Callees.{Callees, callee}

abbrev pub no_heads : Performers → Callees
no_heads performers = record { performers = performers; heads = [] }

abbrev pub with_head : Callees → Head → Callees
with_head c h = record { performers = c.performers; heads = c.heads ++ h ∷ [] }

-- the header has no name, and one that counts stands before it
abbrev pub nameless_fault : List Head → Option ℕ
nameless_fault [] = None
nameless_fault (h ∷ heads) = Some WITHOUT_NAME

-- its name stands for something already
abbrev pub name_fault : Callees → Option (List ℕ) → Option ℕ
name_fault c None = nameless_fault c.heads
name_fault c (Some name) = if is_some (callee c name) then Some NAME_TAKEN else None

-- the code of the fault of a header behind those that count; none where it counts as well
abbrev pub head_fault : Callees → Head → Option ℕ
head_fault c h = name_fault c h.name

abbrev pub without_fault : Callees → Head → Option ℕ → Callees
without_fault c h None = with_head c h
without_fault c h (Some code) = c

-- what counts behind the header of one more unit
abbrev pub counted_with : Callees → Option Head → Callees
counted_with c None = c
counted_with c (Some h) = without_fault c h (head_fault c h)

abbrev pub fault_on : ℕ → Option ℕ → List Fault
fault_on line None = []
fault_on line (Some code) = record { line = line; code = code } ∷ []

-- the fault of the header of a unit that begins on this line of the text
abbrev pub fault_at : ℕ → Callees → Option Head → List Fault
fault_at first c None = []
fault_at first c (Some h) = fault_on (first + h.line) (head_fault c h)

abbrev pub all_counted : Callees → List (ℕ × Known) → Callees
all_counted c [] = c
all_counted c (u ∷ units) = all_counted (counted_with c u.1.head) units

abbrev pub all_faults : Callees → List (ℕ × Known) → List Fault
all_faults c [] = []
all_faults c (u ∷ units) = fault_at u.0 c u.1.head ++ all_faults (counted_with c u.1.head) units

-- the performers that the prelude makes known
abbrev pub performers_in : List (ℕ × Known) → Performers
performers_in [] = no_performers
performers_in (prelude ∷ units) = prelude.1.performers

-- what can be called in a program
abbrev pub headers_in : List (ℕ × Known) → Callees
headers_in units = all_counted (no_heads (performers_in units)) units

-- the faults of its headers, on the lines of the text
abbrev pub header_faults : List (ℕ × Known) → List Fault
header_faults units = all_faults (no_heads (performers_in units)) units
