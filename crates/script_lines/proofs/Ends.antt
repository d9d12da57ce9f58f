-- One more byte of a script: the lines that are ended, and the line begun.
use Rattle.std.proofs.Common.{◌≡◌, ◌≢◌, ℕ, suc, ◌+◌, ◌≤◌, true, false, cond, List, [], ◌∷◌, ◌++◌, length, refl, ap, ◌∙◌, append-nil, arith}
use Rattle.std.specs.Prelude.{◌==◌}
use Rattle.std.specs.Str.Lines.{strip_carriage_return}
use Rattle.std.proofs.lemmas.Bool.Decides.{nat_tests}
use Rattle.script_lines.specs.Lines.{ended, unended, numbered, numbered_from, ended_lines}

pub ended_more : (begun bs : List ℕ) (b : ℕ) → ended begun (bs ++ b ∷ []) ≡ ended begun bs ++ cond (b == 10) (unended begun bs ∷ []) []
ended_more begun [] b = refl
ended_more begun (x ∷ bs) b =
    elim (x == 10) as (λ t. cond t (begun ∷ ended [] (bs ++ b ∷ [])) (ended (begun ++ x ∷ []) (bs ++ b ∷ [])) ≡ cond t (begun ∷ ended [] bs) (ended (begun ++ x ∷ []) bs) ++ cond (b == 10) (cond t (unended [] bs) (unended (begun ++ x ∷ []) bs) ∷ []) []) [
      | true ↦ ap (λ l. begun ∷ l) (ended_more [] bs b)
      | false ↦ ended_more (begun ++ x ∷ []) bs b
    ]

pub unended_more : (begun bs : List ℕ) (b : ℕ) → unended begun (bs ++ b ∷ []) ≡ cond (b == 10) [] (unended begun bs ++ b ∷ [])
unended_more begun [] b = refl
unended_more begun (x ∷ bs) b =
    elim (x == 10) as (λ t. cond t (unended [] (bs ++ b ∷ [])) (unended (begun ++ x ∷ []) (bs ++ b ∷ [])) ≡ cond (b == 10) [] (cond t (unended [] bs) (unended (begun ++ x ∷ []) bs) ++ b ∷ [])) [
      | true ↦ unended_more [] bs b
      | false ↦ unended_more (begun ++ x ∷ []) bs b
    ]

pub length_ended : (begun bs : List ℕ) → length (ended begun bs) ≤ length bs
length_ended begun [] = omega arith
length_ended begun (x ∷ bs) =
    elim (x == 10) as (λ t. length (cond t (begun ∷ ended [] bs) (ended (begun ++ x ∷ []) bs)) ≤ suc (length bs)) [
      | true ↦ let less = length_ended [] bs in omega arith
      | false ↦ let less = length_ended (begun ++ x ∷ []) bs in omega arith
    ]

pub length_numbered : (n : ℕ) (ls : List (List ℕ)) → length (numbered_from n ls) ≡ length ls
length_numbered n [] = refl
length_numbered n (l ∷ ls) = ap suc (length_numbered (n + 1) ls)

pub numbered_more : (n : ℕ) (ls : List (List ℕ)) (l : List ℕ) (at : ℕ) → at ≡ n + length ls → numbered_from n (ls ++ l ∷ []) ≡ numbered_from n ls ++ numbered at (strip_carriage_return l) ∷ []
numbered_more n [] l at e = ap (λ k. numbered k (strip_carriage_return l) ∷ []) (let same : n ≡ at = omega arith in same)
numbered_more n (x ∷ ls) l at e = ap (λ r. numbered n (strip_carriage_return x) ∷ r) (numbered_more (n + 1) ls l at (omega arith))

other_byte : (b : ℕ) → b ≢ 10 → (b == 10) ≡ false
other_byte b h = grind (arith, nat_tests)

-- ---- a byte of the line begun

pub ended_byte : (fed : List ℕ) (b : ℕ) → b ≢ 10 → ended [] (fed ++ b ∷ []) ≡ ended [] fed
ended_byte fed b h = ended_more [] fed b ∙ ap (λ t. ended [] fed ++ cond t (unended [] fed ∷ []) []) (other_byte b h) ∙ append-nil (ended [] fed)

pub unended_byte : (fed : List ℕ) (b : ℕ) → b ≢ 10 → unended [] (fed ++ b ∷ []) ≡ unended [] fed ++ b ∷ []
unended_byte fed b h = unended_more [] fed b ∙ ap (λ t. cond t [] (unended [] fed ++ b ∷ [])) (other_byte b h)

-- ---- the end of a line

pub ended_feed : (fed : List ℕ) → ended [] (fed ++ 10 ∷ []) ≡ ended [] fed ++ unended [] fed ∷ []
ended_feed fed = ended_more [] fed 10

pub unended_feed : (fed : List ℕ) → unended [] (fed ++ 10 ∷ []) ≡ []
unended_feed fed = unended_more [] fed 10

pub lines_feed : (fed : List ℕ) (at : ℕ) → at ≡ 1 + length (ended [] fed) → ended_lines (fed ++ 10 ∷ []) ≡ ended_lines fed ++ numbered at (strip_carriage_return (unended [] fed)) ∷ []
lines_feed fed at e = ap (numbered_from 1) (ended_feed fed) ∙ numbered_more 1 (ended [] fed) (unended [] fed) at e

pub lines_byte : (fed : List ℕ) (b : ℕ) → b ≢ 10 → ended_lines (fed ++ b ∷ []) ≡ ended_lines fed
lines_byte fed b h = ap (numbered_from 1) (ended_byte fed b h)
