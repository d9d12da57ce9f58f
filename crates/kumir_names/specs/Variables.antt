-- Local names with their variables. docs/LANGUAGE.md, "Names".
use Rattle.std.specs.Prelude.{ℕ, nat_eq, nat_lt, Bool, List, length, map, Option, Some, None}
use Rattle.std.specs.Map.{lookup}
use Rattle.std.specs.Cmp.Lexicographic.{pointwise}
use Rattle.kumir_tree.specs.declared.kind.Kind.{Kind}
use Rattle.kumir_tree.specs.Part.{Limits, Declares, Scalars, Tables, Formal}
use Rattle.kumir_names.specs.declared.variable.Variable.{Variable}

-- local names with their variables, in the order of the text
abbrev pub Names : Type 0
Names = List (List ℕ × Variable)

-- the variable with this name
abbrev pub variable : Names → List ℕ → Option Variable
variable names x = lookup (pointwise nat_eq x) names

abbrev pub is_table : Variable → Bool
is_table v = nat_lt 0 v.bounds

-- ---- the names that are declared, with their variables
abbrev pub dimensions : Option Limits → ℕ
dimensions None = 0
dimensions (Some bounds) = length bounds

abbrev pub parameter : Formal → List ℕ × Variable
parameter p = (p.name, record { kind = p.kind; bounds = dimensions p.bounds })

abbrev pub parameters : List Formal → Names
parameters ps = map parameter ps

abbrev pub scalar : Kind → List ℕ → List ℕ × Variable
scalar k x = (x, record { kind = k; bounds = 0 })

abbrev pub table : Kind → List ℕ × Limits → List ℕ × Variable
table k t = (t.0, record { kind = k; bounds = length t.1 })

abbrev pub declares : Declares → Names
declares (Scalars k xs) = map (scalar k) xs
declares (Tables k ts) = map (table k) ts
