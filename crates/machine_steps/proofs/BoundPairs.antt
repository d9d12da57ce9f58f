-- Numbers in pairs, as bounds.
use Rattle.std.proofs.Common.{◌≡◌, ◌≢◌, ℕ, suc, ◌+◌, ◌*◌, ◌/◌, ◌<◌, ◌≤◌, Bool, true, false, List, [], ◌∷◌, ◌++◌, map, length, get_or, drop, drop-cons, refl, sym, ap, ◌∙◌, append_assoc, append-nil, arith}
use Rattle.std.specs.Prelude.{ℤ, ◌&&◌}
use Rattle.std.specs.Ordering.{int_eq}
use Rattle.std.proofs.lemmas.Grind.{common_steps}
use Rattle.kumir_values.specs.declared.bounds.Bound.{Bound}
use Rattle.kumir_values.specs.declared.value.Value.{Value}
use Rattle.kumir_meaning.specs.Operators.{number_of}
use Rattle.kumir_meaning.specs.Store.{same_bounds}
use Rattle.stack_code.specs.CodeState.{paired}

abbrev bound : ℤ → ℤ → Bound
bound low high = record { low = low; high = high }

two_more : (k : ℕ) → 2 * (k + 1) ≡ suc (suc (2 * k))
two_more k = omega arith

one_more : (k : ℕ) → 2 * k + 1 ≡ suc (2 * k)
one_more k = omega arith

-- two elements and the rest
two_front : {T : Type 0} (xs : List T) (k : ℕ) (d : T) → 2 * k + 1 < length xs → drop (2 * k) xs ≡ get_or xs (2 * k) d ∷ (get_or xs (2 * k + 1) d ∷ drop (2 * (k + 1)) xs)
two_front xs k d h =
    let first : 2 * k < length xs = omega arith in
    let second : suc (2 * k) < length xs = omega arith in
    drop-cons xs (2 * k) d first ∙ ap (λ l. get_or xs (2 * k) d ∷ l)
    (drop-cons xs (suc (2 * k)) d second ∙ ap (λ j. get_or xs j d ∷ drop (suc (suc (2 * k))) xs) (sym (one_more k)) ∙ ap (λ j. get_or xs (2 * k + 1) d ∷ drop j xs) (sym (two_more k)))

-- the values

pub one_more_pair : (found : List Bound) (vs : List Value) (k : ℕ) (d : Value) (low high : ℤ) → 2 * k + 1 < length vs
    → low ≡ number_of (get_or vs (2 * k) d) → high ≡ number_of (get_or vs (2 * k + 1) d)
    → (found ++ bound low high ∷ []) ++ paired (map number_of (drop (2 * (k + 1)) vs)) ≡ found ++ paired (map number_of (drop (2 * k) vs))
one_more_pair found vs k d low high h l r =
    append_assoc found (bound low high ∷ []) (paired (map number_of (drop (2 * (k + 1)) vs)))
    ∙ ap (λ x. found ++ bound x high ∷ paired (map number_of (drop (2 * (k + 1)) vs))) l
    ∙ ap (λ x. found ++ bound (number_of (get_or vs (2 * k) d)) x ∷ paired (map number_of (drop (2 * (k + 1)) vs))) r
    ∙ ap (λ xs. found ++ paired (map number_of xs)) (sym (two_front vs k d h))

one_at_most : (xs : List ℤ) → length xs ≤ 1 → paired xs ≡ []
one_at_most [] h = refl
one_at_most (x ∷ []) h = refl
one_at_most (x ∷ (y ∷ xs)) h = absurd (let wrong : ⊥ = omega arith in wrong)

length-drop-map : (vs : List Value) (n : ℕ) → length vs ≤ n + 1 → length (map number_of (drop n vs)) ≤ 1
length-drop-map vs n h = grind (arith, common_steps, h)

pub all_pairs : (vs : List Value) (k : ℕ) (found : List Bound) → length vs / 2 ≤ k → found ++ paired (map number_of (drop (2 * k) vs)) ≡ paired (map number_of vs) → found ≡ paired (map number_of vs)
all_pairs vs k found h e =
    let few : length vs ≤ 2 * k + 1 = omega arith in
    sym (ap (λ l. found ++ l) (one_at_most (map number_of (drop (2 * k) vs)) (length-drop-map vs (2 * k) few)) ∙ append-nil found) ∙ e

-- the bounds

same_length : (bs cs : List Bound) → length bs ≢ length cs → same_bounds bs cs ≡ false
same_length [] [] h = absurd (h refl)
same_length [] (c ∷ cs) h = refl
same_length (b ∷ bs) [] h = refl
same_length (b ∷ bs) (c ∷ cs) h = and_false (int_eq b.low c.low && int_eq b.high c.high) _ (same_length bs cs (λ e. h (ap suc e)))
  where
    and_false : (x y : Bool) → y ≡ false → x && y ≡ false
    and_false true y e = e
    and_false false y e = refl

length-paired : (ends : List ℤ) → length (paired ends) ≡ length ends / 2
length-paired [] = refl
length-paired (x ∷ []) = refl
length-paired (x ∷ (y ∷ ends)) = let e = length-paired ends in omega (arith, e)

pub other_count : (bounds : List Bound) (ends : List ℤ) → length bounds ≢ length ends / 2 → same_bounds bounds (paired ends) ≡ false
other_count bounds ends h = same_length bounds (paired ends) (λ e. h (e ∙ length-paired ends))

-- the first bounds that are left, and the others
pub at_front : (bounds : List Bound) (ends : List ℤ) (at : ℕ) (d : Bound) (e : ℤ) → at < length bounds → 2 * at + 1 < length ends
    → same_bounds (drop at bounds) (paired (drop (2 * at) ends))
    ≡ ((int_eq (get_or bounds at d).low (get_or ends (2 * at) e) && int_eq (get_or bounds at d).high (get_or ends (2 * at + 1) e)) && same_bounds (drop (at + 1) bounds) (paired (drop (2 * (at + 1)) ends)))
at_front bounds ends at d e h k =
    ap (λ l. same_bounds l (paired (drop (2 * at) ends))) (drop-cons bounds at d h ∙ ap (λ j. get_or bounds at d ∷ drop j bounds) (after_one at))
    ∙ ap (λ l. same_bounds (get_or bounds at d ∷ drop (at + 1) bounds) (paired l)) (two_front ends at e k)
  where
    after_one : (at : ℕ) → suc at ≡ at + 1
    after_one at = omega arith

pub differs : (bounds : List Bound) (ends : List ℤ) (at : ℕ) (d : Bound) (e : ℤ) (same all : Bool) → at < length bounds → 2 * at + 1 < length ends
    → same ≡ (int_eq (get_or bounds at d).low (get_or ends (2 * at) e) && int_eq (get_or bounds at d).high (get_or ends (2 * at + 1) e)) → same ≡ false
    → same_bounds (drop at bounds) (paired (drop (2 * at) ends)) ≡ all → false ≡ all
differs bounds ends at d e same all h k is f g =
    ap (λ b. b && same_bounds (drop (at + 1) bounds) (paired (drop (2 * (at + 1)) ends))) (sym f ∙ is) ∙ sym (at_front bounds ends at d e h k) ∙ g

pub agrees : (bounds : List Bound) (ends : List ℤ) (at : ℕ) (d : Bound) (e : ℤ) (same all : Bool) → at < length bounds → 2 * at + 1 < length ends
    → same ≡ (int_eq (get_or bounds at d).low (get_or ends (2 * at) e) && int_eq (get_or bounds at d).high (get_or ends (2 * at + 1) e)) → same ≡ true
    → same_bounds (drop at bounds) (paired (drop (2 * at) ends)) ≡ all → same_bounds (drop (at + 1) bounds) (paired (drop (2 * (at + 1)) ends)) ≡ all
agrees bounds ends at d e same all h k is t g =
    ap (λ b. b && same_bounds (drop (at + 1) bounds) (paired (drop (2 * (at + 1)) ends))) (sym t ∙ is) ∙ sym (at_front bounds ends at d e h k) ∙ g

pub none_behind : (bounds : List Bound) (ends : List ℤ) (at : ℕ) (all : Bool) → length bounds ≡ length ends / 2 → length bounds ≤ at
    → same_bounds (drop at bounds) (paired (drop (2 * at) ends)) ≡ all → true ≡ all
none_behind bounds ends at all same h g =
    let few : length ends ≤ 2 * at + 1 = omega arith in
    let left : drop at bounds ≡ [] = grind (arith, common_steps, h) in
    let right : length (drop (2 * at) ends) ≤ 1 = grind (arith, common_steps, few) in
    sym (ap (λ l. same_bounds l (paired (drop (2 * at) ends))) left ∙ ap (same_bounds []) (one_at_most (drop (2 * at) ends) right)) ∙ g
