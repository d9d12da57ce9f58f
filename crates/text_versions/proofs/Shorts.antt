-- Lines with few characters.
use Rattle.std.proofs.Common.{◌≡◌, ℕ, ◌≤◌, Bool, true, false, ◌&&◌, List, [], ◌∷◌, ◌++◌, length, take, drop, sym, ap, ◌∙◌, refl, arith}
use Rattle.std.specs.Prelude.{nat_le}
use Rattle.std.proofs.lemmas.Bool.{and_parts, and_from, le-leb, leb-true}
use Rattle.std.proofs.lemmas.List.{take-append-drop}
use Rattle.text_versions.specs.Texts.{are_short}

and_assoc : (a b c : Bool) → ((a && b) && c) ≡ (a && (b && c))
and_assoc true b c = refl
and_assoc false b c = refl

pub short-append : (n : ℕ) (ls ms : List (List ℕ)) → are_short n (ls ++ ms) ≡ (are_short n ls && are_short n ms)
short-append n [] ms = refl
short-append n (l ∷ ls) ms = ap (λ b. nat_le (length l) n && b) (short-append n ls ms) ∙ sym (and_assoc (nat_le (length l) n) (are_short n ls) (are_short n ms))

short-weaker : (n m : ℕ) (ls : List (List ℕ)) → n ≤ m → are_short n ls ≡ true → are_short m ls ≡ true
short-weaker n m [] le h = refl
short-weaker n m (l ∷ ls) le h =
    let both = and_parts (nat_le (length l) n) (are_short n ls) h in
    and_from (nat_le (length l) m) (are_short m ls) (le-leb (length l) m (omega (arith, leb-true (length l) n both.0))) (short-weaker n m ls le both.1)

-- the first lines and the last ones of short lines
short_parts : (n i : ℕ) (ls : List (List ℕ)) → are_short n ls ≡ true → (are_short n (take i ls) ≡ true) × (are_short n (drop i ls) ≡ true)
short_parts n i ls h = and_parts (are_short n (take i ls)) (are_short n (drop i ls)) (sym (short-append n (take i ls) (drop i ls)) ∙ ap (are_short n) (take-append-drop i ls) ∙ h)

-- lines that are known to be short are short enough
pub short_known : (n m from to : ℕ) (ls added : List (List ℕ)) → n ≤ m → are_short n ls ≡ true → are_short m (take from ls ++ added ++ drop to ls) ≡ are_short m added
short_known n m from to ls added le h =
    let front = short-weaker n m (take from ls) le (short_parts n from ls h).0 in
    let back = short-weaker n m (drop to ls) le (short_parts n to ls h).1 in
    short-append m (take from ls ++ added) (drop to ls)
    ∙ ap (λ b. b && are_short m (drop to ls)) (short-append m (take from ls) added)
    ∙ ap (λ b. (b && are_short m added) && are_short m (drop to ls)) front
    ∙ ap (λ b. are_short m added && b) back
    ∙ and_true (are_short m added)
  where
    and_true : (b : Bool) → (b && true) ≡ b
    and_true true = refl
    and_true false = refl

-- the lines before, in and behind the patch
pub short_three : (n : ℕ) (a b c ls : List (List ℕ)) → a ++ (b ++ c) ≡ ls → ((are_short n a && are_short n b) && are_short n c) ≡ are_short n ls
short_three n a b c ls e =
    and_assoc (are_short n a) (are_short n b) (are_short n c)
    ∙ ap (λ x. are_short n a && x) (sym (short-append n b c))
    ∙ sym (short-append n a (b ++ c))
    ∙ ap (are_short n) e
