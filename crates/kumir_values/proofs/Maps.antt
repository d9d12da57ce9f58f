-- A table as a map: its places are one to one, so a write changes the value at one list of indexes alone.
use Rattle.std.specs.Prelude.{◌≡◌, ℕ, ◌<◌, true, false, ◌&&◌, List, [], ◌∷◌, length, ℤ, pos, negsuc, ◌-ℤ◌, int_le, ◌≤ℤ◌, Option, Some, None, if◌then◌else◌}
use Rattle.std.proofs.Common.{refl, sym, ap, subst, ◌∙◌, arith, get_or, set}
use Rattle.std.proofs.lemmas.Int.{ints}
use Rattle.std.proofs.lemmas.Nat.{mul-add-lt, same_from_place}
use Rattle.std.proofs.lemmas.List.{get_or-set_same, get_or-set_other}
use Rattle.kumir_values.specs.declared.bounds.Bound.{Bound}
use Rattle.kumir_values.specs.declared.value.Value.{Value}
use Rattle.kumir_values.specs.Bounds.{natural, width, elements, inside, place}
use Rattle.kumir_values.specs.Tables.{Grid, value_at, changed, same_index, found_value, read_at}
use Rattle.kumir_values.proofs.Places.{both, distance}

record Within (b : Bound) (bs : List Bound) (i : ℤ) (is : List ℤ) : Type 0 where
  low : b.low ≤ℤ i
  high : i ≤ℤ b.high
  rest : inside bs is ≡ true

within : (b : Bound) (bs : List Bound) (i : ℤ) (is : List ℤ) → inside (b ∷ bs) (i ∷ is) ≡ true → Within b bs i is
within b bs i is h =
    let s = both (int_le b.low i && int_le i b.high) (inside bs is) h in
    let r = both (int_le b.low i) (int_le i b.high) s.0 in
    let l = r.0 in
    let u = r.1 in
    record { low = omega (arith, ints); high = omega (arith, ints); rest = s.1 }

pub place_below : (bs : List Bound) (is : List ℤ) → inside bs is ≡ true → place bs is < elements bs
place_below [] [] h = omega arith
place_below [] (i ∷ is) h = absurd (cc)
place_below (b ∷ bs) [] h = absurd (cc)
place_below (b ∷ bs) (i ∷ is) h =
    let w = within b bs i is h in
    omega (arith, mul-add-lt (natural (i -ℤ b.low)) (elements bs) (place bs is) (width b) (distance b i w.low w.high).1 (place_below bs is w.rest))

natural_whole : (z : ℤ) → pos 0 ≤ℤ z → pos (natural z) ≡ z
natural_whole (pos n) h = refl
natural_whole (negsuc n) h = absurd (omega (arith, ints))

same_offset : (low i j : ℤ) → low ≤ℤ i → low ≤ℤ j → natural (i -ℤ low) ≡ natural (j -ℤ low) → i ≡ j
same_offset low i j h k e =
    let x = natural_whole (i -ℤ low) (omega (arith, ints)) in
    let y = natural_whole (j -ℤ low) (omega (arith, ints)) in
    let z : i -ℤ low ≡ j -ℤ low = sym x ∙ ap pos e ∙ y in
    omega (arith, ints)

-- two lists of indexes within the bounds have one place only where they are one
place_same : (bs : List Bound) (is js : List ℤ) → inside bs is ≡ true → inside bs js ≡ true → place bs is ≡ place bs js → is ≡ js
place_same [] [] [] h k e = refl
place_same [] [] (j ∷ js) h k e = absurd (cc)
place_same [] (i ∷ is) js h k e = absurd (cc)
place_same (b ∷ bs) [] js h k e = absurd (cc)
place_same (b ∷ bs) (i ∷ is) [] h k e = absurd (cc)
place_same (b ∷ bs) (i ∷ is) (j ∷ js) h k e =
    let x = within b bs i is h in
    let y = within b bs j js k in
    let s = same_from_place (natural (i -ℤ b.low)) (place bs is) (natural (j -ℤ b.low)) (place bs js) (elements bs) (place_below bs is x.rest) (place_below bs js y.rest) e in
    let p = same_offset b.low i j x.low y.low s.0 in
    let q = place_same bs is js x.rest y.rest s.1 in
    λ k. p k ∷ q k

same_index_is : (is js : List ℤ) → same_index is js ≡ true → is ≡ js
same_index_is [] [] h = refl
same_index_is [] (j ∷ js) h = absurd (cc)
same_index_is (i ∷ is) [] h = absurd (cc)
same_index_is (i ∷ is) (j ∷ js) h =
    let s = both (int_le i j && int_le j i) (same_index is js) h in
    let r = both (int_le i j) (int_le j i) s.0 in
    let l = r.0 in
    let u = r.1 in
    let p : i ≡ j = omega (arith, ints) in
    let q = same_index_is is js s.1 in
    λ k. p k ∷ q k

same_index_self : (is : List ℤ) → same_index is is ≡ true
same_index_self [] = refl
same_index_self (i ∷ is) =
    let x : int_le i i ≡ true = grind (arith, ints) in
    rw (x, same_index_self is) refl

-- what the search for a place says
pub placed : (bs : List Bound) (is : List ℤ) (p : ℕ) → (if inside bs is then Some (place bs is) else None) ≡ Some p → (inside bs is ≡ true) × (place bs is ≡ p)
placed bs is p h =
    elim (inside bs is) as (λ b. inside bs is ≡ b → (if b then Some (place bs is) else None) ≡ Some p → (inside bs is ≡ true) × (place bs is ≡ p)) [
      | true ↦ λ e k. (e, cc)
      | false ↦ λ e k. absurd (cc)
    ] refl h

abbrev at_place : List Bound → List (Option Value) → List ℤ → Option Value
at_place bs held j = if inside bs j then get_or held (place bs j) None else None

written : (bs : List Bound) (held : List (Option Value)) (is : List ℤ) (v : Option Value) → inside bs is ≡ true → length held ≡ elements bs → (j : List ℤ) → at_place bs (set held (place bs is) v) j ≡ (if same_index is j then v else at_place bs held j)
written bs held is v h len j =
    elim (inside bs j) as (λ b. inside bs j ≡ b → (if b then get_or (set held (place bs is) v) (place bs j) None else None) ≡ (if same_index is j then v else (if b then get_or held (place bs j) None else None))) [
      | true ↦ λ e. elim (same_index is j) as (λ s. same_index is j ≡ s → get_or (set held (place bs is) v) (place bs j) None ≡ (if s then v else get_or held (place bs j) None)) [
        | true ↦ λ q. subst (λ x. get_or (set held (place bs is) v) (place bs x) None ≡ v) (same_index_is is j q) (get_or-set_same held (place bs is) v None (omega (arith, len, place_below bs is h)))
        | false ↦ λ q. get_or-set_other held (place bs is) (place bs j) v None (λ p. let s : same_index is j ≡ true = subst (λ x. same_index is x ≡ true) (place_same bs is j h e (sym p)) (same_index_self is) in absurd (cc))
      ] refl
      | false ↦ λ e. elim (same_index is j) as (λ s. same_index is j ≡ s → None ≡ (if s then v else None)) [
        | true ↦ λ q. let s : inside bs j ≡ true = subst (λ x. inside bs x ≡ true) (same_index_is is j q) h in absurd (cc)
        | false ↦ λ q. refl
      ] refl
    ] refl

pub stored : (t : Grid) (is : List ℤ) (p : ℕ) (v : Option Value) → (if inside t.bounds is then Some (place t.bounds is) else None) ≡ Some p → length t.held ≡ elements t.bounds → value_at (record t { held = set t.held p v }) ≡ changed (value_at t) is v
stored t is p v h len =
    let s = placed t.bounds is p h in
    subst (λ x. value_at (record t { held = set t.held x v }) ≡ changed (value_at t) is v) s.1 (λ k j. written t.bounds t.held is v s.0 len j k)

pub read : (t : Grid) (is : List ℤ) (p : ℕ) (v : Option Value) → (if inside t.bounds is then Some (place t.bounds is) else None) ≡ Some p → get_or t.held p None ≡ v → found_value v ≡ read_at t is
read t is p v h e =
    let s = placed t.bounds is p h in
    rw s.0 (ap found_value (sym e ∙ ap (λ n. get_or t.held n None) (sym s.1)))
