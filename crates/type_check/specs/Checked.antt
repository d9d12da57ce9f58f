-- The faults of an algorithm in its names and types, and the names that it asks for. docs/LANGUAGE.md, "Names" and "Types".
use Rattle.std.specs.Prelude.{ℕ, nat_eq, Bool, true, false, ◌||◌, not, if◌then◌else◌, List, [], ◌∷◌, ◌++◌, filter, fold, Option, Some, None, is_some}
use Rattle.std.specs.List.{list_any, list_all}
use Rattle.std.specs.Cmp.Lexicographic.{pointwise}
use Rattle.kumir_tree.specs.declared.kind.Kind.{Kind}
use Rattle.kumir_tree.specs.declared.unit.Fault.{Fault}
use Rattle.kumir_tree.specs.declared.fault_codes.TheConstants.{DECLARED_TWICE, UNKNOWN_NAME, TYPES_DO_NOT_FIT}
use Rattle.kumir_tree.specs.Unit.{Algorithm}
use Rattle.kumir_tree.specs.Part.{Head}
use Rattle.kumir_names.specs.Callees.{Callee}
use Rattle.type_rules.specs.Counted.{fault_on}
use Rattle.kumir_names.specs.declared.variable.Variable.{Variable}
use Rattle.kumir_names.specs.Variables.{Names, variable}
use Rattle.type_check.specs.Kinds.{Among, is_known}
use Rattle.type_check.specs.Parts.{Part, Parameters, Condition, Repeating, Counting, Declaring, Assigning, Calling, Reading, Printing, Pieces, pieces, used_by, declared_by, fits}

-- ---- local names

abbrev pub is_local : Names → List ℕ → Bool
is_local names x = is_some (variable names x)

-- the first declaration of a name counts
abbrev pub with_local : Names → List ℕ × Variable → Names
with_local names v = if is_local names v.0 then names else names ++ v ∷ []

abbrev pub with_locals : Names → Names → Names
with_locals names vs = fold with_local names vs

-- a name of these is local already, or stands twice among them
abbrev pub declared_again : Names → Names → Bool
declared_again names [] = false
declared_again names (v ∷ vs) = is_local names v.0 || declared_again (with_local names v) vs

-- the local names behind a piece
abbrev pub behind : Names → Part → Names
behind names p = with_locals names (declared_by p)

-- The local names at a piece are those declared before it. In the bounds of parameters they are all parameters.
abbrev pub at_piece : Names → Part → Names
at_piece names (Parameters ps) = behind names (Parameters ps)
at_piece names (Condition e) = names
at_piece names (Repeating e) = names
at_piece names (Counting x from to step) = names
at_piece names (Declaring d) = names
at_piece names (Assigning p e) = names
at_piece names (Calling f es) = names
at_piece names (Reading ps) = names
at_piece names (Printing xs) = names

-- ---- faults

-- a name declared again; else a name that is not known; else what does not fit
abbrev pub fault_code : Bool → Bool → Bool → Option ℕ
fault_code true known right = Some DECLARED_TWICE
fault_code false false right = Some UNKNOWN_NAME
fault_code false true false = Some TYPES_DO_NOT_FIT
fault_code false true true = None

-- the code of the fault of a piece among these names
abbrev pub part_fault : (List ℕ → Option (Callee Head)) → Option Kind → Names → Part → Option ℕ
part_fault find gives names p =
    let s : Among = record { find = find; gives = gives; names = at_piece names p } in
    fault_code (declared_again names (declared_by p)) (list_all (is_known s) (used_by p)) (fits s p)

-- the faults of pieces behind these local names, one piece after another
abbrev pub faults_from : (List ℕ → Option (Callee Head)) → Option Kind → Names → Pieces → List Fault
faults_from find gives names [] = []
faults_from find gives names (p ∷ more) = fault_on p.0 (part_fault find gives names p.1) ++ faults_from find gives (behind names p.1) more

-- the faults of an algorithm in its names and types, where `find` says what the names stand for that are not local
abbrev pub unit_faults : (List ℕ → Option (Callee Head)) → Algorithm → List Fault
unit_faults find a = faults_from find a.head.gives [] (pieces a)

-- ---- the names that are asked for

abbrev pub not_local : Names → List (List ℕ) → List (List ℕ)
not_local names xs = filter (λ x. not (is_local names x)) xs

abbrev pub asked_from : Names → Pieces → List (List ℕ)
asked_from names [] = []
asked_from names (p ∷ more) = not_local (at_piece names p.1) (used_by p.1) ++ asked_from (behind names p.1) more

-- a list of names with one more, where it is not among them
abbrev pub noted : List (List ℕ) → List ℕ → List (List ℕ)
noted xs x = if list_any (pointwise nat_eq x) xs then xs else xs ++ x ∷ []

-- each name once, where it stands first
abbrev pub each_once : List (List ℕ) → List (List ℕ)
each_once xs = fold noted [] xs

-- the names that an algorithm uses where they are not local
abbrev pub asked : Algorithm → List (List ℕ)
asked a = each_once (asked_from [] (pieces a))
