-- The headers that count in a program, and the faults of the others.
use Rattle.std.specs.Prelude.{◌≡◌, ◌≢◌, ℕ, List, [], ◌∷◌, ◌++◌, Option, Some, None, IsSome, map}
use Rattle.std.specs.Borrow.{Bor}
use Rattle.km_base.specs.declared.performers.Performers.{Performers}
use Rattle.kumir_tree.specs.Part.{Head}
use Rattle.kumir_tree.specs.Parts.{head_of}
use Rattle.kumir_tree.specs.declared.header.Header.{Header}
use Rattle.type_rules.specs.declared.callee.Callee.{Callee}
use Rattle.type_rules.specs.declared.callee.Callee.TheVariants as rust
use Rattle.kumir_names.specs.Callees as names
use Rattle.type_rules.specs.Callees.{Callees, callee}

-- ---- the code's values as plain data

abbrev pub called_of : Callee → names.Callee Head
called_of (rust.Algorithm h) = names.Called (head_of h.now)
called_of (rust.BuiltIn b) = names.BuiltInCall b
called_of (rust.Robot c) = names.RobotCall c
called_of (rust.Pen s) = names.PenCall s

abbrev pub some_called : Option Callee → Option (names.Callee Head)
some_called None = None
some_called (Some c) = Some (called_of c)

abbrev pub some_head_behind : Option (Bor Header) → Option Head
some_head_behind None = None
some_head_behind (Some h) = Some (head_of h.now)

-- the performers that are known, and the headers that count
pub record HeaderList : Type 0 where
  pub performers : Performers
  pub headers : List Header

abbrev pub callees_of : HeaderList → Callees
callees_of h = record { performers = h.performers; heads = map head_of h.headers }

abbrev pub first_headers : Option Header → List Header
first_headers None = []
first_headers (Some h) = h ∷ []

abbrev pub values_in : List (List ℕ × Header) → List Header
values_in entries = map (λ e. e.1) entries

-- ---- which headers can be added

-- a header without name is to be the first
abbrev pub IsNameless : HeaderList → Header → Type 0
IsNameless l h = (h.name ≡ None) × (l.headers ≢ [])

-- its name is there already, or is that of a built-in or of a known command
abbrev pub IsTakenName : Callees → Option (List ℕ) → Type 0
IsTakenName c None = ⊥
IsTakenName c (Some name) = IsSome (callee c name)

abbrev pub IsTaken : HeaderList → Header → Type 0
IsTaken l h = IsTakenName (callees_of l) h.name

abbrev pub no_headers : Performers → HeaderList
no_headers performers = record { performers = performers; headers = [] }

abbrev pub with_header : HeaderList → Header → HeaderList
with_header l h = record { performers = l.performers; headers = l.headers ++ h ∷ [] }
