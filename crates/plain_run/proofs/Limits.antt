-- Lines within the limits, one after another.
use Rattle.std.proofs.Common.{map, ◌≡◌, ℕ, ◌+◌, ◌-◌, ◌<◌, ◌≤◌, List, [], ◌∷◌, ◌++◌, length, take, get_or, arith, sym, ap, subst, ◌∙◌}
use Rattle.std.proofs.lemmas.List.{take_more, get_or-map, length-map, map-append}
use Rattle.std.proofs.lemmas.List.Elements.{All-append}
use Rattle.km_base.specs.Limits.{line_characters}
use Rattle.plain_run.specs.Texts.{AreShort, IsFirstLong}

one_short : (line : List ℕ) → length line ≤ line_characters → AreShort (line ∷ [])
one_short line fits k d lt = let first : k ≡ 0 = omega arith in subst (λ n. length (get_or (line ∷ []) n d) ≤ line_characters) (sym first) fits

pub short_more : {X : Type 0} (see : X → List ℕ) (xs : List X) (i : ℕ) (d : X) → i < length xs → AreShort (take i (map see xs)) → (n : ℕ) → n ≡ length (see (get_or xs i d)) → n ≤ line_characters → AreShort (take (i + 1) (map see xs))
short_more see xs i d lt before n is_width narrow =
    let fits : length (see (get_or xs i d)) ≤ line_characters = omega (arith, is_width, narrow) in
    let inside : i < length (map see xs) = omega (arith, length-map xs see) in
    let all : AreShort (take i (map see xs) ++ see (get_or xs i d) ∷ []) = All-append (λ line. length line ≤ line_characters) (take i (map see xs)) (see (get_or xs i d) ∷ []) before (one_short (see (get_or xs i d)) fits) in
    let seam : take (i + 1) (map see xs) ≡ take i (map see xs) ++ see (get_or xs i d) ∷ [] = take_more (map see xs) i (see d) inside ∙ ap (λ line. take i (map see xs) ++ line ∷ []) (get_or-map see xs i d (see d) lt) in
    subst AreShort (sym seam) all

pub first_long_at : {X : Type 0} (see : X → List ℕ) (xs : List X) (i : ℕ) (d : X) → i < length xs → AreShort (take i (map see xs)) → line_characters < length (see (get_or xs i d)) → IsFirstLong (map see xs) (i + 1)
first_long_at see xs i d lt before long = record {
  counted = omega arith;
  within = omega (arith, length-map xs see);
  long = let same : get_or (map see xs) (i + 1 - 1) [] ≡ see (get_or xs i d) = let here : i + 1 - 1 ≡ i = omega arith in ap (λ n. get_or (map see xs) n []) here ∙ get_or-map see xs i d [] lt in omega (arith, long, ap length same);
  before = let here : i ≡ i + 1 - 1 = omega arith in subst (λ n. AreShort (take n (map see xs))) here before;
}

-- one item more, in step with a list
pub in_step : {X Y : Type 0} (f : X → Y) (xs : List X) (i : ℕ) (d : X) (ys new : List Y) (y : Y) → i < length xs → ys ≡ take i (map f xs) → y ≡ f (get_or xs i d) → new ≡ ys ++ y ∷ [] → new ≡ take (i + 1) (map f xs)
in_step f xs i d ys new y lt before is made =
    let inside : i < length (map f xs) = omega (arith, length-map xs f) in
    made ∙ ap (λ l. l ++ y ∷ []) before ∙ ap (λ z. take i (map f xs) ++ z ∷ []) (is ∙ sym (get_or-map f xs i d (f d) lt)) ∙ sym (take_more (map f xs) i (f d) inside)

pub in_step_seen : {X Y Z : Type 0} (g : Z → Y) (f : X → Y) (xs : List X) (i : ℕ) (d : X) (zs new : List Z) (z : Z) → i < length xs → map g zs ≡ take i (map f xs) → g z ≡ f (get_or xs i d) → new ≡ zs ++ z ∷ [] → map g new ≡ take (i + 1) (map f xs)
in_step_seen g f xs i d zs new z lt before is made = in_step f xs i d (map g zs) (map g new) (g z) lt before is (ap (map g) made ∙ map-append g zs (z ∷ []))
