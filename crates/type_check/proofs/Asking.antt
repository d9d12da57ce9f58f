-- The faults of an algorithm depend on the names that it asks for, and on no others.
use Rattle.std.proofs.Common.{◌≡◌, ℕ, nat_eq, Bool, true, false, cond, ◌&&◌, ◌||◌, not, List, [], ◌∷◌, ◌++◌, fold, Option, Some, None, is_some, refl, sym, ap, subst, ◌∙◌}
use Rattle.std.specs.List.{AllByRecursion, list_all, list_any}
use Rattle.std.specs.Cmp.Lexicographic.{pointwise}
use Rattle.std.proofs.lemmas.Slice.Eq.{bytes_eq-Decides}
use Rattle.kumir_tree.specs.declared.kind.Kind.{Kind}
use Rattle.kumir_tree.specs.declared.kind.Kind.TheVariants.{Whole, Truth}
use Rattle.kumir_tree.specs.Tree as t
use Rattle.kumir_tree.specs.Tree.{Tree, Trees, no_trees, ◌then◌}
use Rattle.kumir_tree.specs.Part.{Limits, Place, ToAnswer, ToScalar, ToElement, Shown, ShowValue, ShowText, ShowLine, Declares, Scalars, Tables, Formal, Head}
use Rattle.kumir_names.specs.Callees.{Callee}
use Rattle.type_rules.specs.Counted.{fault_on}
use Rattle.kumir_names.specs.declared.variable.Variable.{Variable}
use Rattle.kumir_names.specs.Variables.{Names, variable}
use Rattle.type_check.specs.Kinds.{Among, is_known, is_known_as, is_kind, are_same, kind_where, binary_kind, name_kind, element_kind, call_kind, kind_of, arguments, is_place, whole_table}
use Rattle.type_check.specs.Parts.{Part, Parameters, Condition, Repeating, Counting, Declaring, Assigning, Calling, Reading, Printing, Pieces, pieces, names_in, all_names_in, limits_names, some_limits_names, formals_names, tables_names, declares_names, place_names, places_names, shown_names, all_shown_names, some_names_in, used_by, declared_by, bounds_fit, some_bounds_fit, formals_fit, tables_fit, declares_fit, place_kind, places_fit, shown_fits, all_shown_fit, some_whole, scalar_kind, call_fits, fits}
use Rattle.type_check.specs.Checked.{is_local, noted, not_local, at_piece, behind, asked_from, fault_code, declared_again, part_fault, faults_from}
use Rattle.type_check.specs.Laws.{AsksForAll}

-- ---- what holds of each name

module _ (P : List ℕ → Type 0) where
  all_left : (xs ys : List (List ℕ)) → AllByRecursion P (xs ++ ys) → AllByRecursion P xs
  all_left [] ys all = _
  all_left (x ∷ xs) ys all = (all.0, all_left xs ys all.1)

  all_right : (xs ys : List (List ℕ)) → AllByRecursion P (xs ++ ys) → AllByRecursion P ys
  all_right [] ys all = all
  all_right (x ∷ xs) ys all = all_right xs ys all.1

  -- of a name that is among the others
  of_noted : (x : List ℕ) (xs : List (List ℕ)) → AllByRecursion P xs → list_any (pointwise nat_eq x) xs ≡ true → P x
  of_noted x [] all there = cc
  of_noted x (y ∷ ys) all there = by (pointwise nat_eq x y) refl there (λ h. of_noted x ys all.1 h)
    where
      by : (b : Bool) → pointwise nat_eq x y ≡ b → (b || list_any (pointwise nat_eq x) ys) ≡ true → (list_any (pointwise nat_eq x) ys ≡ true → P x) → P x
      by true same h later = subst P (sym ((bytes_eq-Decides x y).0 same)) all.0
      by false other h later = later h

  of_one_noted : (xs : List (List ℕ)) (x : List ℕ) → AllByRecursion P (noted xs x) → AllByRecursion P xs × P x
  of_one_noted xs x all = by (list_any (pointwise nat_eq x) xs) refl all
    where
      by : (b : Bool) → list_any (pointwise nat_eq x) xs ≡ b → AllByRecursion P (cond b xs (xs ++ x ∷ [])) → AllByRecursion P xs × P x
      by true there h = (h, of_noted x xs h there)
      by false new h = (all_left xs (x ∷ []) h, (all_right xs (x ∷ []) h).0)

  of_all_noted : (seen xs : List (List ℕ)) → AllByRecursion P (fold noted seen xs) → AllByRecursion P seen × AllByRecursion P xs
  of_all_noted seen [] all = (all, _)
  of_all_noted seen (x ∷ xs) all =
      let rest = of_all_noted (noted seen x) xs all in
      let one = of_one_noted seen x rest.0 in
      (one.0, (one.1, rest.1))

-- ---- what is said among the same local names by two look-ups

module _ (find other : List ℕ → Option (Callee Head)) where
  abbrev Agree : Names → List (List ℕ) → Type 0
  Agree names xs = AllByRecursion (λ x. find x ≡ other x) (not_local names xs)

  split : (names : Names) (xs ys : List (List ℕ)) → Agree names (xs ++ ys) → Agree names xs × Agree names ys
  split names [] ys all = (_, all)
  split names (x ∷ xs) ys all = by (not (is_local names x)) all (λ h. split names xs ys h)
    where
      by : (keep : Bool) → AllByRecursion (λ z. find z ≡ other z) (cond keep (x ∷ not_local names (xs ++ ys)) (not_local names (xs ++ ys))) → (Agree names (xs ++ ys) → Agree names xs × Agree names ys) → AllByRecursion (λ z. find z ≡ other z) (cond keep (x ∷ not_local names xs) (not_local names xs)) × Agree names ys
      by true h later = let rest = later h.1 in ((h.0, rest.0), rest.1)
      by false h later = later h

  -- what depends on a name by its variable, or where it has none by what is found
  of_name : {R : Type 0} (names : Names) (x : List ℕ) (xs : List (List ℕ)) (says : Option Variable → Option (Callee Head) → R) → ((v : Variable) (a b : Option (Callee Head)) → says (Some v) a ≡ says (Some v) b) → Agree names (x ∷ xs) → says (variable names x) (find x) ≡ says (variable names x) (other x)
  of_name {R} names x xs says local all = by (variable names x) all
    where
      by : (v : Option Variable) → AllByRecursion (λ z. find z ≡ other z) (cond (not (is_some v)) (x ∷ not_local names xs) (not_local names xs)) → says v (find x) ≡ says v (other x)
      by None h = ap (says None) h.0
      by (Some v) h = local v (find x) (other x)

  rest_of : (names : Names) (x : List ℕ) (xs : List (List ℕ)) → Agree names (x ∷ xs) → Agree names xs
  rest_of names x xs all = (split names (x ∷ []) xs all).1

  module _ (gives : Option Kind) (names : Names) where
    abbrev here : Among
    here = record { find = find; gives = gives; names = names }

    abbrev there : Among
    there = record { find = other; gives = gives; names = names }

    mutual
      kind_same : (e : Tree) → Agree names (names_in e) → kind_of here e ≡ kind_of there e
      kind_same (t.Number n) all = refl
      kind_same (t.Truth b) all = refl
      kind_same t.Answer all = refl
      kind_same (t.Named x) all = of_name names x [] name_kind (λ v a b. refl) all
      kind_same (t.Element x es) all = ap (element_kind (variable names x)) (arguments_same es (rest_of names x (all_names_in es) all))
      kind_same (t.Call f es) all = of_name names f (all_names_in es) (λ v c. call_kind v c (arguments here es)) (λ v a b. refl) all ∙ ap (call_kind (variable names f) (other f)) (arguments_same es (rest_of names f (all_names_in es) all))
      kind_same (t.Plus a) all = ap (λ k. kind_where (is_kind Whole k) Whole) (kind_same a all)
      kind_same (t.Minus a) all = ap (λ k. kind_where (is_kind Whole k) Whole) (kind_same a all)
      kind_same (t.Not a) all = ap (λ k. kind_where (is_kind Truth k) Truth) (kind_same a all)
      kind_same (t.Binary o a b) all = let two = split names (names_in a) (names_in b) all in (λ i. binary_kind o (kind_same a two.0 i) (kind_same b two.1 i))

      arguments_same : (es : Trees) → Agree names (all_names_in es) → arguments here es ≡ arguments there es
      arguments_same no_trees all = refl
      arguments_same (e then es) all = let two = split names (names_in e) (all_names_in es) all in (λ i. record { value = kind_same e two.0 i; place = is_place names e; table = whole_table names e } ∷ arguments_same es two.1 i)

    bounds_same : (bs : Limits) → Agree names (limits_names bs) → bounds_fit here bs ≡ bounds_fit there bs
    bounds_same [] all = refl
    bounds_same (b ∷ bs) all =
        let low = split names (names_in b.0) (names_in b.1 ++ limits_names bs) all in
        let high = split names (names_in b.1) (limits_names bs) low.1 in
        (λ i. is_kind Whole (kind_same b.0 low.0 i) && (is_kind Whole (kind_same b.1 high.0 i) && bounds_same bs high.1 i))

    some_bounds_same : (bs : Option Limits) → Agree names (some_limits_names bs) → some_bounds_fit here bs ≡ some_bounds_fit there bs
    some_bounds_same None all = refl
    some_bounds_same (Some bs) all = bounds_same bs all

    formals_same : (ps : List Formal) → Agree names (formals_names ps) → formals_fit here ps ≡ formals_fit there ps
    formals_same [] all = refl
    formals_same (p ∷ ps) all = let two = split names (some_limits_names p.bounds) (formals_names ps) all in (λ i. some_bounds_same p.bounds two.0 i && formals_same ps two.1 i)

    tables_same : (ts : List (List ℕ × Limits)) → Agree names (tables_names ts) → tables_fit here ts ≡ tables_fit there ts
    tables_same [] all = refl
    tables_same (t ∷ ts) all = let two = split names (limits_names t.1) (tables_names ts) all in (λ i. bounds_same t.1 two.0 i && tables_same ts two.1 i)

    declares_same : (d : Declares) → Agree names (declares_names d) → declares_fit here d ≡ declares_fit there d
    declares_same (Scalars k xs) all = refl
    declares_same (Tables k ts) all = tables_same ts all

    place_same : (p : Place) → Agree names (place_names p) → place_kind here p ≡ place_kind there p
    place_same ToAnswer all = refl
    place_same (ToScalar x) all = refl
    place_same (ToElement x es) all = ap (element_kind (variable names x)) (arguments_same es (rest_of names x (all_names_in es) all))

    places_same : (ps : List Place) → Agree names (places_names ps) → places_fit here ps ≡ places_fit there ps
    places_same [] all = refl
    places_same (p ∷ ps) all = let two = split names (place_names p) (places_names ps) all in (λ i. is_some (place_same p two.0 i) && places_same ps two.1 i)

    shown_same : (x : Shown) → Agree names (shown_names x) → shown_fits here x ≡ shown_fits there x
    shown_same (ShowValue e) all = ap is_some (kind_same e all)
    shown_same (ShowText cs) all = refl
    shown_same ShowLine all = refl

    all_shown_same : (xs : List Shown) → Agree names (all_shown_names xs) → all_shown_fit here xs ≡ all_shown_fit there xs
    all_shown_same [] all = refl
    all_shown_same (x ∷ xs) all = let two = split names (shown_names x) (all_shown_names xs) all in (λ i. shown_same x two.0 i && all_shown_same xs two.1 i)

    some_whole_same : (e : Option Tree) → Agree names (some_names_in e) → some_whole here e ≡ some_whole there e
    some_whole_same None all = refl
    some_whole_same (Some e) all = ap (is_kind Whole) (kind_same e all)

    counting_same : (x : List ℕ) (from to : Tree) (step : Option Tree) → Agree names (used_by (Counting x from to step)) → fits here (Counting x from to step) ≡ fits there (Counting x from to step)
    counting_same x from to step all =
        let first = split names (names_in from) (names_in to ++ some_names_in step) (rest_of names x (names_in from ++ (names_in to ++ some_names_in step)) all) in
        let last = split names (names_in to) (some_names_in step) first.1 in
        (λ i. is_kind Whole (scalar_kind (variable names x)) && (is_kind Whole (kind_same from first.0 i) && (is_kind Whole (kind_same to last.0 i) && some_whole_same step last.1 i)))

    fits_same : (p : Part) → Agree names (used_by p) → fits here p ≡ fits there p
    fits_same (Parameters ps) all = formals_same ps all
    fits_same (Condition e) all = ap (is_kind Truth) (kind_same e all)
    fits_same (Repeating e) all = ap (is_kind Whole) (kind_same e all)
    fits_same (Counting x from to step) all = counting_same x from to step all
    fits_same (Declaring d) all = declares_same d all
    fits_same (Assigning p e) all = let two = split names (place_names p) (names_in e) all in (λ i. are_same (place_same p two.0 i) (kind_same e two.1 i))
    fits_same (Calling f es) all = of_name names f (all_names_in es) (λ v c. call_fits v c (arguments here es)) (λ v a b. refl) all ∙ ap (call_fits (variable names f) (other f)) (arguments_same es (rest_of names f (all_names_in es) all))
    fits_same (Reading ps) all = places_same ps all
    fits_same (Printing xs) all = all_shown_same xs all

    known_same : (xs : List (List ℕ)) → Agree names xs → list_all (is_known here) xs ≡ list_all (is_known there) xs
    known_same [] all = refl
    known_same (x ∷ xs) all = (λ i. of_name names x xs is_known_as (λ v a b. refl) all i && known_same xs (rest_of names x xs all) i)

  part_same : (gives : Option Kind) (names : Names) (p : Part) → Agree (at_piece names p) (used_by p) → part_fault find gives names p ≡ part_fault other gives names p
  part_same gives names p all = λ i. fault_code (declared_again names (declared_by p)) (known_same gives (at_piece names p) (used_by p) all i) (fits_same gives (at_piece names p) p all i)

  faults_same : (gives : Option Kind) (names : Names) (ps : Pieces) → AllByRecursion (λ x. find x ≡ other x) (asked_from names ps) → faults_from find gives names ps ≡ faults_from other gives names ps
  faults_same gives names [] all = refl
  faults_same gives names (p ∷ ps) all =
      let own = all_left (λ x. find x ≡ other x) (not_local (at_piece names p.1) (used_by p.1)) (asked_from (behind names p.1) ps) all in
      let rest = all_right (λ x. find x ≡ other x) (not_local (at_piece names p.1) (used_by p.1)) (asked_from (behind names p.1) ps) all in
      (λ i. fault_on p.0 (part_same gives names p.1 own i) ++ faults_same gives (behind names p.1) ps rest i)

pub asks_for_all : AsksForAll
asks_for_all a find other all = faults_same find other a.head.gives [] (pieces a) (of_all_noted (λ x. find x ≡ other x) [] (asked_from [] (pieces a)) all).1
