-- Lists of numbers that do not fall.
use Rattle.std.proofs.Common.{◌≡◌, ◌⊎◌, inl, inr, ℕ, ◌-◌, ◌≤◌, List, [], ◌∷◌, ◌++◌, length, get_or, refl, subst, ⊎_elim, arith}
use Rattle.std.specs.Prelude.{All, Contains}
use Rattle.std.specs.List.Sorted.{IsNonDecreasing}
use Rattle.std.proofs.lemmas.List.{length_push, get_or_push, get_or_default}
use Rattle.std.proofs.lemmas.List.Sorted.{IsNonDecreasingBy-push}
use Rattle.std.proofs.lemmas.List.Elements.{Contains-append_left, Contains-get_or}
use Rattle.beacon_word.specs.Beacon.{last_or_zero}

pub last_or_zero-push : (numbers : List ℕ) (y : ℕ) → last_or_zero (numbers ++ y ∷ []) ≡ y
last_or_zero-push numbers y = let long = length_push numbers y in let last : length numbers ≡ length (numbers ++ y ∷ []) - 1 = omega arith in get_or_push numbers y 0 (length (numbers ++ y ∷ []) - 1) last

-- the last number is 0 or one of the list
pub last_or_zero-known : (numbers : List ℕ) → (last_or_zero numbers ≡ 0) ⊎ Contains numbers (last_or_zero numbers)
last_or_zero-known [] = inl refl
last_or_zero-known (x ∷ xs) = inr (Contains-get_or (x ∷ xs) (length (x ∷ xs) - 1) 0 (omega arith))

-- a number that is not below the last one may follow
pub rises_push : (numbers : List ℕ) (y : ℕ) → IsNonDecreasing numbers → last_or_zero numbers ≤ y → IsNonDecreasing (numbers ++ y ∷ [])
rises_push numbers y rises above = IsNonDecreasingBy-push (λ x. x) numbers y rises (λ d some. subst (λ n. n ≤ y) (get_or_default numbers (length numbers - 1) 0 d (omega (arith, some))) above)

-- so may one that is not below any of the list
pub rises_push_all : (numbers : List ℕ) (y : ℕ) → IsNonDecreasing numbers → All (λ n. n ≤ y) numbers → IsNonDecreasing (numbers ++ y ∷ [])
rises_push_all numbers y rises above = IsNonDecreasingBy-push (λ x. x) numbers y rises (λ d some. above (length numbers - 1) d (omega (arith, some)))

-- where more numbers were raised, those that were known are known
pub known_more : (raised more shown : List ℕ) → All (λ n. (n ≡ 0) ⊎ Contains raised n) shown → All (λ n. (n ≡ 0) ⊎ Contains (raised ++ more) n) shown
known_more raised more shown known k d inside = ⊎_elim (λ z. inl z) (λ c. inr (Contains-append_left raised more (get_or shown k d) c)) (known k d inside)
