-- Parts of lists that are joined.
use Rattle.std.proofs.Common.{◌≡◌, ℕ, ◌+◌, ◌-◌, ◌<◌, ◌≤◌, min, List, [], ◌∷◌, ◌++◌, length, sym, ap, ◌∙◌, refl, arith, rules, append_assoc, zero, suc}
use Rattle.std.specs.Prelude.{slice_range, slice_get}
use Rattle.std.proofs.lemmas.List.{places, same_lists}

-- a part of two lists that are joined is a part of the first and a part of the second
pub slice_split : {X : Type 0} → (p q : List X) (a b : ℕ) → a ≤ b → slice_range (p ++ q) a b ≡ slice_range p (min a (length p)) (min b (length p)) ++ slice_range q (a - min a (length p)) (b - min b (length p))
slice_split p q a b h = same_lists _ _ (search (rules, places)) (λ k d l. grind (arith, places))

-- the part of the first is taken, and what is taken of the second is the rest
pub one_more : (out p q all : List (List ℕ)) (a b : ℕ) → a ≤ b → out ++ slice_range (p ++ q) a b ≡ all → (out ++ slice_range p (min a (length p)) (min b (length p))) ++ slice_range q (a - min a (length p)) (b - min b (length p)) ≡ all
one_more out p q all a b h e =
    append_assoc out (slice_range p (min a (length p)) (min b (length p))) (slice_range q (a - min a (length p)) (b - min b (length p)))
    ∙ ap (λ l. out ++ l) (sym (slice_split p q a b h))
    ∙ e

-- an item of two lists that are joined
pub get_left : {X : Type 0} → (p q : List X) (i : ℕ) → i < length p → slice_get (p ++ q) i ≡ slice_get p i
get_left [] q i h = absurd (omega arith)
get_left (x ∷ p) q zero h = refl
get_left (x ∷ p) q (suc i) h = get_left p q i (omega arith)

pub get_right : {X : Type 0} → (p q : List X) (i j : ℕ) → i ≡ length p + j → slice_get (p ++ q) i ≡ slice_get q j
get_right [] q i j e = ap (slice_get q) (omega arith)
get_right (x ∷ p) q zero j e = absurd (omega arith)
get_right (x ∷ p) q (suc i) j e = get_right p q i j (omega arith)
