-- What is found by the first place of its name.
use Rattle.std.proofs.Common.{◌≡◌, ℕ, suc, ◌+◌, ◌<◌, ◌≤◌, zero, nat_eq, nat_lt, Bool, true, false, cond, List, [], ◌∷◌, ◌++◌, Option, Some, None, map, option_map, take, length, length-append, slice_get, refl, sym, ap, ◌∙◌, arith}
use Rattle.std.specs.Map.{lookup}
use Rattle.std.specs.Cmp.Lexicographic.{pointwise}
use Rattle.std.proofs.lemmas.Bool.Decides.{nat_tests}
use Rattle.std.proofs.lemmas.Slice.Eq.{bytes_eq-Decides}
use Rattle.kumir_tree.specs.declared.kind.Kind.{Kind}
use Rattle.kumir_names.specs.declared.variable.Variable.{Variable}
use Rattle.kumir_names.specs.Variables.{Names, variable}
use Rattle.kumir_names.specs.Callees.{algorithm_named, is_named, or_else}
use Rattle.kumir_meaning.specs.Program.{own_name}
use Rattle.kumir_meaning.specs.Store.{CellName, TheAnswer, Local}
use Rattle.kumir_compiler.specs.Sites.{position}
use Rattle.kumir_compiler.specs.ExpressionCode.{number_of_unit}
use Rattle.kumir_compiler.specs.UnitCode.{answer_of}
use Rattle.kumir_compiler.specs.FirstPlaces.{first_place, names_in, place_or_end, variables_in, IsKeptFirst}
use Rattle.kumir_compiler.specs.AlgorithmsSeen.{name_seen, seen}
use Rattle.kumir_compiler.specs.declared.placed.PlacedTree.{PlacedTree}

-- ---- one name more
behind : (first : Option ℕ) (b : Bool) (n : ℕ) → option_map suc (or_else first (cond b (Some n) None)) ≡ or_else (option_map suc first) (cond b (Some (suc n)) None)
behind None true n = refl
behind None false n = refl
behind (Some p) b n = refl

pub one_more : (x : List ℕ) (names : List (Option (List ℕ))) (y : Option (List ℕ)) → first_place x (names ++ y ∷ []) ≡ or_else (first_place x names) (cond (is_named x y) (Some (length names)) None)
one_more x [] y = refl
one_more x (z ∷ names) y =
    elim (is_named x z) as (λ b. cond b (Some 0) (option_map suc (first_place x (names ++ y ∷ []))) ≡ or_else (cond b (Some 0) (option_map suc (first_place x names))) (cond (is_named x y) (Some (suc (length names))) None)) [
      | true ↦ refl
      | false ↦ ap (option_map suc) (one_more x names y) ∙ behind (first_place x names) (is_named x y) (length names)
    ]

pub counted : (count place : ℕ) (name : Option (List ℕ)) (old new : List (Option (List ℕ))) → count ≡ place + 1 → place ≡ length old → new ≡ old ++ name ∷ [] → count ≡ length new
counted count place name old new next at added =
    let more = ap length added in
    let sum = length-append old (name ∷ []) in
    omega (arith, next, at, more, sum)

abbrev FindsFirst : List (List ℕ × ℕ) → List (Option (List ℕ)) → Type 0
FindsFirst places names = (x : List ℕ) → lookup (pointwise nat_eq x) places ≡ first_place x names

pub name_added : (old new : List (List ℕ × ℕ)) (names : List (Option (List ℕ))) (name : List ℕ) (place : ℕ) → FindsFirst old names → place ≡ length names → IsKeptFirst old name place new → FindsFirst new (names ++ Some name ∷ [])
name_added old new names name place finds at kept x =
    kept x ∙ ap (λ first. or_else first (cond (pointwise nat_eq x name) (Some place) None)) (finds x)
    ∙ ap (λ n. or_else (first_place x names) (cond (pointwise nat_eq x name) (Some n) None)) at ∙ sym (one_more x names (Some name))

or_none : (first : Option ℕ) → or_else first None ≡ first
or_none None = refl
or_none (Some p) = refl

pub nameless_added : (places : List (List ℕ × ℕ)) (names : List (Option (List ℕ))) → FindsFirst places names → FindsFirst places (names ++ None ∷ [])
nameless_added places names finds x = finds x ∙ sym (or_none (first_place x names)) ∙ sym (one_more x names None)

-- ---- slots
same_names : (x y : List ℕ) → pointwise nat_eq y x ≡ pointwise nat_eq x y
same_names x y =
    elim (pointwise nat_eq x y) as (λ b. pointwise nat_eq x y ≡ b → pointwise nat_eq y x ≡ b) [
      | true ↦ λ e. (bytes_eq-Decides y x).1 (sym ((bytes_eq-Decides x y).0 e))
      | false ↦ λ e. elim (pointwise nat_eq y x) as (λ b. pointwise nat_eq y x ≡ b → b ≡ false) [
        | true ↦ λ f. sym ((bytes_eq-Decides x y).1 (sym ((bytes_eq-Decides y x).0 f))) ∙ e
        | false ↦ λ f. refl
      ] refl
    ] refl

place_end : (first : Option ℕ) (l : List ℕ × Variable) (names : Names) → place_or_end (option_map suc first) (l ∷ names) ≡ suc (place_or_end first names)
place_end None l names = refl
place_end (Some p) l names = refl

local_position : (names : Names) (x : List ℕ) → position (map (λ l. Local l.0) names) (Local x) ≡ place_or_end (first_place x (names_in names)) names
local_position [] x = refl
local_position (l ∷ names) x =
    ap (λ b. cond b 0 (suc (position (map (λ m. Local m.0) names) (Local x)))) (same_names x l.0)
    ∙ elim (pointwise nat_eq x l.0) as (λ b. cond b 0 (suc (position (map (λ m. Local m.0) names) (Local x))) ≡ place_or_end (cond b (Some 0) (option_map suc (first_place x (names_in names)))) (l ∷ names)) [
      | true ↦ refl
      | false ↦ ap suc (local_position names x) ∙ sym (place_end (first_place x (names_in names)) l names)
    ]

pub name_slot : (gives : Option Kind) (names : Names) (x : List ℕ) → position (answer_of gives ++ map (λ l. Local l.0) names) (Local x) ≡ length (answer_of gives) + place_or_end (first_place x (names_in names)) names
name_slot None names x = local_position names x ∙ (let e : place_or_end (first_place x (names_in names)) names ≡ 0 + place_or_end (first_place x (names_in names)) names = omega arith in e)
name_slot (Some k) names x = ap suc (local_position names x) ∙ (let e : suc (place_or_end (first_place x (names_in names)) names) ≡ 1 + place_or_end (first_place x (names_in names)) names = omega arith in e)

no_answer : (names : Names) → position (map (λ l. Local l.0) names) TheAnswer ≡ length names
no_answer [] = refl
no_answer (l ∷ names) = ap suc (no_answer names)

pub answer_first : (k : Kind) (names : Names) → position (answer_of (Some k) ++ map (λ l. Local l.0) names) TheAnswer ≡ 0
answer_first k names = refl

pub answer_behind : (names : Names) → position (answer_of None ++ map (λ l. Local l.0) names) TheAnswer ≡ length names
answer_behind names = no_answer names

-- ---- local names
abbrev within : Option ℕ → ℕ → Names → Option Variable
within None n names = None
within (Some p) n names = cond (nat_lt p n) (slice_get (variables_in names) p) None

lower : (p n : ℕ) → nat_lt (suc p) (suc n) ≡ nat_lt p n
lower p n = grind (arith, nat_tests)

within_more : (first : Option ℕ) (n : ℕ) (l : List ℕ × Variable) (names : Names) → within (option_map suc first) (suc n) (l ∷ names) ≡ within first n names
within_more None n l names = refl
within_more (Some p) n l names = ap (λ b. cond b (slice_get (variables_in names) p) None) (lower p n)

none_within : (first : Option ℕ) (names : Names) → None ≡ within first zero names
none_within None names = refl
none_within (Some p) names = ap (λ b. cond b (slice_get (variables_in names) p) None) (let e : false ≡ nat_lt p zero = grind (arith, nat_tests) in e)

found_within : (names : Names) (n : ℕ) (x : List ℕ) → variable (take n names) x ≡ within (first_place x (names_in names)) n names
found_within names zero x = none_within (first_place x (names_in names)) names
found_within [] (suc n) x = refl
found_within (l ∷ names) (suc n) x =
    elim (pointwise nat_eq x l.0) as (λ b. cond b (Some l.1) (variable (take n names) x) ≡ within (cond b (Some 0) (option_map suc (first_place x (names_in names)))) (suc n) (l ∷ names)) [
      | true ↦ ap (λ b. cond b (Some l.1) None) (let e : true ≡ nat_lt 0 (suc n) = grind (arith, nat_tests) in e)
      | false ↦ found_within names n x ∙ sym (within_more (first_place x (names_in names)) n l names)
    ]

module _ (names : Names) (n : ℕ) (x : List ℕ) where
  pub no_local : first_place x (names_in names) ≡ None → None ≡ variable (take n names) x
  no_local e = sym (found_within names n x ∙ ap (λ first. within first n names) e)

  pub local_before : (p : ℕ) → first_place x (names_in names) ≡ Some p → p < n → slice_get (variables_in names) p ≡ variable (take n names) x
  local_before p e lt =
      sym (found_within names n x ∙ ap (λ first. within first n names) e ∙ ap (λ b. cond b (slice_get (variables_in names) p) None) (let f : nat_lt p n ≡ true = grind (arith, nat_tests, lt) in f))

  pub local_behind : (p : ℕ) → first_place x (names_in names) ≡ Some p → n ≤ p → None ≡ variable (take n names) x
  local_behind p e le =
      sym (found_within names n x ∙ ap (λ first. within first n names) e ∙ ap (λ b. cond b (slice_get (variables_in names) p) None) (let f : nat_lt p n ≡ false = grind (arith, nat_tests, le) in f))

pub ruleset locals = (no_local, local_before, local_behind)

-- ---- algorithms
abbrev at_place : Option ℕ → List PlacedTree → Option PlacedTree
at_place None trees = None
at_place (Some n) trees = slice_get trees n

at_more : (first : Option ℕ) (p : PlacedTree) (trees : List PlacedTree) → option_map seen (at_place (option_map suc first) (p ∷ trees)) ≡ option_map seen (at_place first trees)
at_more None p trees = refl
at_more (Some n) p trees = refl

found_at : (x : List ℕ) (trees : List PlacedTree) → algorithm_named own_name x (map seen trees) ≡ option_map seen (at_place (first_place x (map name_seen trees)) trees)
found_at x [] = refl
found_at x (p ∷ trees) =
    elim (is_named x (name_seen p)) as (λ b. cond b (Some (seen p)) (algorithm_named own_name x (map seen trees)) ≡ option_map seen (at_place (cond b (Some 0) (option_map suc (first_place x (map name_seen trees)))) (p ∷ trees))) [
      | true ↦ refl
      | false ↦ found_at x trees ∙ sym (at_more (first_place x (map name_seen trees)) p trees)
    ]

abbrev number_at : Option ℕ → ℕ → ℕ
number_at None end = end
number_at (Some n) end = n

number_more : (first : Option ℕ) (end : ℕ) → number_at (option_map suc first) (suc end) ≡ suc (number_at first end)
number_more None end = refl
number_more (Some n) end = refl

numbered_at : (x : List ℕ) (trees : List PlacedTree) → number_of_unit (map seen trees) x ≡ number_at (first_place x (map name_seen trees)) (length trees)
numbered_at x [] = refl
numbered_at x (p ∷ trees) =
    elim (is_named x (name_seen p)) as (λ b. cond b 0 (suc (number_of_unit (map seen trees) x)) ≡ number_at (cond b (Some 0) (option_map suc (first_place x (map name_seen trees)))) (suc (length trees))) [
      | true ↦ refl
      | false ↦ ap suc (numbered_at x trees) ∙ sym (number_more (first_place x (map name_seen trees)) (length trees))
    ]

module _ (x : List ℕ) (trees : List PlacedTree) where
  pub none_found : first_place x (map name_seen trees) ≡ None → algorithm_named own_name x (map seen trees) ≡ None
  none_found e = found_at x trees ∙ ap (λ first. option_map seen (at_place first trees)) e

  pub none_there : (n : ℕ) → first_place x (map name_seen trees) ≡ Some n → slice_get trees n ≡ None → algorithm_named own_name x (map seen trees) ≡ None
  none_there n e f = found_at x trees ∙ ap (λ first. option_map seen (at_place first trees)) e ∙ ap (option_map seen) f

  pub one_found : (n : ℕ) (p : PlacedTree) → first_place x (map name_seen trees) ≡ Some n → slice_get trees n ≡ Some p → algorithm_named own_name x (map seen trees) ≡ Some (seen p)
  one_found n p e f = found_at x trees ∙ ap (λ first. option_map seen (at_place first trees)) e ∙ ap (option_map seen) f

  pub one_number : (n : ℕ) → first_place x (map name_seen trees) ≡ Some n → n ≡ number_of_unit (map seen trees) x
  one_number n e = sym (numbered_at x trees ∙ ap (λ first. number_at first (length trees)) e)

pub ruleset found = (none_found, none_there, one_found, one_number)

pub ruleset slot_of_answer = (answer_first, answer_behind)
