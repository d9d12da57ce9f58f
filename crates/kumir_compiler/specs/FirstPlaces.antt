-- The first places of names.
use Rattle.std.specs.Prelude.{◌≡◌, ℕ, suc, nat_eq, List, [], ◌∷◌, Option, Some, None, option_map, length, map, if◌then◌else◌}
use Rattle.std.specs.Map.{lookup}
use Rattle.std.specs.Cmp.Lexicographic.{pointwise}
use Rattle.kumir_names.specs.declared.variable.Variable.{Variable}
use Rattle.kumir_names.specs.Variables.{Names}
use Rattle.kumir_names.specs.Callees.{is_named, or_else}

-- among names some of which may be missing
abbrev pub first_place : List ℕ → List (Option (List ℕ)) → Option ℕ
first_place x [] = None
first_place x (y ∷ names) = if is_named x y then Some 0 else option_map suc (first_place x names)

-- a place, or that behind all names
abbrev pub place_or_end : {T : Type 0} → Option ℕ → List T → ℕ
place_or_end None names = length names
place_or_end (Some place) names = place

-- the place of a name that has none yet is there too
abbrev pub IsKeptFirst : List (List ℕ × ℕ) → List ℕ → ℕ → List (List ℕ × ℕ) → Type 0
IsKeptFirst old name place new =
    (x : List ℕ) → lookup (pointwise nat_eq x) new ≡ or_else (lookup (pointwise nat_eq x) old) (if pointwise nat_eq x name then Some place else None)

-- names, and what they stand for
abbrev pub names_in : Names → List (Option (List ℕ))
names_in names = map (λ l. Some l.0) names

abbrev pub variables_in : Names → List Variable
variables_in names = map (λ l. l.1) names
