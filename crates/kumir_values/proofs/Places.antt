-- Places within bounds, as far as a loop over the bounds has come.
use Rattle.std.specs.Prelude.{◌≡◌, ℕ, ◌+◌, ◌*◌, ◌<◌, ◌≤◌, Bool, true, false, ◌&&◌, List, [], ◌∷◌, length, ℤ, pos, negsuc, ◌+ℤ◌, ◌-ℤ◌, int_le, ◌≤ℤ◌, ◌<ℤ◌, unsigned_abs, int_lt, FitsSigned, Option, Some, None, if◌then◌else◌}
use Rattle.std.proofs.Common.{refl, sym, ap, subst, ◌∙◌, arith, drop, get_or, w32, to_z, of_z}
use Rattle.std.proofs.lemmas.Int.{ints}
use Rattle.std.proofs.lemmas.Nat.{mul-le}
use Rattle.std.proofs.lemmas.List.{drop_more}
use Rattle.kumir_values.specs.declared.bounds.Bound.{Bound}
use Rattle.kumir_values.specs.Bounds.{natural, width, is_ordered, all_ordered, elements, inside, place}

-- what is found behind the first bounds, where the elements before are n whole rests
abbrev pub found : ℕ → List Bound → List ℤ → Option ℕ
found n bs is = if inside bs is then Some (n * elements bs + place bs is) else None

natural_at_least : (z : ℤ) → pos 1 ≤ℤ z → 1 ≤ natural z
natural_at_least (pos n) h = omega (arith, ints)
natural_at_least (negsuc n) h = absurd (omega (arith, ints))

natural_is : (z : ℤ) → pos 0 ≤ℤ z → natural z ≡ unsigned_abs z
natural_is (pos n) h = refl
natural_is (negsuc n) h = absurd (omega (arith, ints))

natural_below : (y z : ℤ) → pos 0 ≤ℤ y → y <ℤ z → natural y < natural z
natural_below (pos m) (pos n) h l = omega (arith, ints)
natural_below (pos m) (negsuc n) h l = absurd (omega (arith, ints))
natural_below (negsuc m) z h l = absurd (omega (arith, ints))

pub both : (a b : Bool) → (a && b) ≡ true → (a ≡ true) × (b ≡ true)
both true b h = (refl, h)
both false b h = absurd (cc)

wide : (b : Bound) → is_ordered b ≡ true → 1 ≤ width b
wide b h = natural_at_least (b.high -ℤ b.low +ℤ pos 1) (omega (arith, ints))

pub some_elements : (bs : List Bound) → all_ordered bs ≡ true → 1 ≤ elements bs
some_elements [] h = omega arith
some_elements (b ∷ bs) h =
    let s = both (is_ordered b) (all_ordered bs) h in
    omega (arith, mul-le 1 1 (width b) (elements bs) (wide b s.0) (some_elements bs s.1))

-- what is left to count says that there are more than were counted
pub more_elements : (bs : List Bound) (count total : ℕ) → all_ordered bs ≡ true → count * elements bs ≡ total → count ≤ total
more_elements bs count total h e = omega (arith, mul-le count 1 count (elements bs) (omega arith) (some_elements bs h))

-- one more index: its place, and that it fits
pub step_fits : (n w d e t : ℕ) → 1 ≤ e → d < w → (n + 1) * (w * e) ≤ t → ((n * w + d + 1) * e ≤ t) × (n * w + d < t)
step_fits n w d e t p l h =
    let m : n * w + d + 1 ≤ (n + 1) * w = omega arith in
    let a : (n * w + d + 1) * e ≤ (n + 1) * w * e = mul-le (n * w + d + 1) e ((n + 1) * w) e m (omega arith) in
    let b : (n * w + d + 1) * 1 ≤ (n * w + d + 1) * e = mul-le (n * w + d + 1) 1 (n * w + d + 1) e (omega arith) p in
    (omega arith, omega arith)

-- the distance from the lower end
pub distance : (b : Bound) (i : ℤ) → b.low ≤ℤ i → i ≤ℤ b.high → (natural (i -ℤ b.low) ≡ unsigned_abs (i -ℤ b.low)) × (natural (i -ℤ b.low) < width b)
distance b i l h =
    (natural_is (i -ℤ b.low) (omega (arith, ints)), natural_below (i -ℤ b.low) (b.high -ℤ b.low +ℤ pos 1) (omega (arith, ints)) (omega (arith, ints)))

pub found_step : (b : Bound) (bs : List Bound) (i : ℤ) (is : List ℤ) (n : ℕ) → b.low ≤ℤ i → i ≤ℤ b.high → found n (b ∷ bs) (i ∷ is) ≡ found (n * width b + natural (i -ℤ b.low)) bs is
found_step b bs i is n l h =
    let x : int_le b.low i ≡ true = grind (arith, ints) in
    let y : int_le i b.high ≡ true = grind (arith, ints) in
    rw (x, y) (ap (λ p. if inside bs is then Some p else None) (omega arith))

-- a turn of the loop over the bounds
pub record Turned (bounds : List Bound) (index : List ℤ) (k n m t : ℕ) : Type 0 where
  pub rest : found m (drop (k + 1) bounds) (drop (k + 1) index) ≡ found n (drop k bounds) (drop k index)
  pub fits : (m + 1) * elements (drop (k + 1) bounds) ≤ t
  pub below : m < t
  pub ordered : all_ordered (drop (k + 1) bounds) ≡ true

turn_at : (bounds : List Bound) (index : List ℤ) (k n t : ℕ) (b : Bound) (bs : List Bound) (i : ℤ) (is : List ℤ) → drop k bounds ≡ b ∷ bs → drop (k + 1) bounds ≡ bs → drop k index ≡ i ∷ is → drop (k + 1) index ≡ is → b.low ≤ℤ i → i ≤ℤ b.high → all_ordered (b ∷ bs) ≡ true → (n + 1) * elements (b ∷ bs) ≤ t → Turned bounds index k n (n * width b + unsigned_abs (i -ℤ b.low)) t
turn_at bounds index k n t b bs i is p p' q q' l h o f =
    let s = both (is_ordered b) (all_ordered bs) o in
    let d = distance b i l h in
    let x = step_fits n (width b) (unsigned_abs (i -ℤ b.low)) (elements bs) t (some_elements bs s.1) (omega (arith, d.0, d.1)) f in
    record {
      rest = rw (p, p', q, q') (sym (found_step b bs i is n l h ∙ ap (λ y. found (n * width b + y) bs is) d.0));
      fits = rw p' x.0;
      below = x.1;
      ordered = rw p' s.1;
    }

pub turn : (bounds : List Bound) (index : List ℤ) (k n t : ℕ) (b : Bound) (i : ℤ) (e : Bound) → k < length bounds → length index ≡ length bounds → b ≡ get_or bounds k e → i ≡ get_or index k (pos 0) → FitsSigned w32 i → FitsSigned w32 b.low → FitsSigned w32 b.high → int_lt (to_z w32 (of_z w32 i)) (to_z w32 (of_z w32 b.low)) ≡ false → int_lt (to_z w32 (of_z w32 b.high)) (to_z w32 (of_z w32 i)) ≡ false → all_ordered (drop k bounds) ≡ true → (n + 1) * elements (drop k bounds) ≤ t → Turned bounds index k n (n * width b + unsigned_abs (i -ℤ b.low)) t
turn bounds index k n t b i e h len at_b at_i fi fl fh lo hi o f =
    let p : drop k bounds ≡ b ∷ drop (k + 1) bounds = drop_more bounds k e h ∙ ap (λ x. x ∷ drop (k + 1) bounds) (sym at_b) in
    let q : drop k index ≡ i ∷ drop (k + 1) index = drop_more index k (pos 0) (omega arith) ∙ ap (λ x. x ∷ drop (k + 1) index) (sym at_i) in
    turn_at bounds index k n t b (drop (k + 1) bounds) i (drop (k + 1) index) p refl q refl (omega (arith, ints)) (omega (arith, ints)) (subst (λ x. all_ordered x ≡ true) p o) (subst (λ x. (n + 1) * elements x ≤ t) p f)
