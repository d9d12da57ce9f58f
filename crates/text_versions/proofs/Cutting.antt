-- Lines that are cut into chunks from their end on.
use Rattle.std.proofs.Common.{◌≡◌, ℕ, ◌+◌, ◌-◌, ◌*◌, ◌/◌, ◌%◌, ◌<◌, ◌≤◌, ◌⊎◌, inl, inr, List, ◌∷◌, ◌++◌, length, take, drop, sym, ap, ◌∙◌, subst, arith, append_assoc, length-take-le, length-drop}
use Rattle.std.proofs.lemmas.List.{take-append-drop}
use Rattle.std.proofs.lemmas.Bool.{cases_lt}
use Rattle.text_versions.specs.Chunks.{joined}
use Rattle.text_versions.specs.Cuts.{AreCut}

-- how far the lines are cut: those that are left and the pieces are all of them, and of the pieces only the last one has
-- fewer than 64 lines
pub record AreCutSoFar (all left : List (List ℕ)) (pieces : List (List (List ℕ))) (begun made : ℕ) : Type 0 where
  pub whole : left ++ joined pieces ≡ all
  pub fewer : length left ≤ length all
  pub cut : AreCut pieces (length all - length left)
  pub full : length left < length all → length left % 64 ≡ 0
  pub unmade : length left ≡ length all → made ≡ begun
  pub made_few : 64 * made + length left ≤ 64 * begun + length all + 63

-- one piece more before those that are cut
pub one_before : (p : List (List ℕ)) (ps : List (List (List ℕ))) (count all : ℕ) → 1 ≤ length p → length p ≤ 64 → (length p < 64 → count ≡ 0) → all ≡ length p + count → AreCut ps count → AreCut (p ∷ ps) all
one_before p ps count all some few last e cut = before p ps count all some few last e cut (cases_lt (length p) 64)
  where
    before : (p : List (List ℕ)) (ps : List (List (List ℕ))) (count all : ℕ) → 1 ≤ length p → length p ≤ 64 → (length p < 64 → count ≡ 0) → all ≡ length p + count → AreCut ps count → (length p < 64) ⊎ (64 ≤ length p) → AreCut (p ∷ ps) all
    before p ps count all some few last e cut (inl l) =
        let none = last l in
        let same : count ≡ all - 64 = omega arith in
        (some, omega arith, subst (AreCut ps) same cut)
    before p ps count all some few last e cut (inr l) =
        let same : count ≡ all - 64 = omega arith in
        (some, omega arith, subst (AreCut ps) same cut)

still_whole : (all left : List (List ℕ)) (ps : List (List (List ℕ))) (at : ℕ) → left ++ joined ps ≡ all → take at left ++ (drop at left ++ joined ps) ≡ all
still_whole all left ps at whole = sym (append_assoc (take at left) (drop at left) (joined ps)) ∙ ap (λ ls. ls ++ joined ps) (take-append-drop at left) ∙ whole

-- the last lines of those that are left are cut off
pub cut_more : (all left : List (List ℕ)) (ps : List (List (List ℕ))) (begun made at : ℕ) → AreCutSoFar all left ps begun made → 64 < length left → at ≡ (length left - 1) / 64 * 64 → AreCutSoFar all (take at left) (drop at left ∷ ps) begun (made + 1)
cut_more all left ps begun made at far many e = more all left ps begun made at far many e (cases_lt (length left) (length all))
  where
    more : (all left : List (List ℕ)) (ps : List (List (List ℕ))) (begun made at : ℕ) → AreCutSoFar all left ps begun made → 64 < length left → at ≡ (length left - 1) / 64 * 64 → (length left < length all) ⊎ (length all ≤ length left) → AreCutSoFar all (take at left) (drop at left ∷ ps) begun (made + 1)
    more all left ps begun made at far many e (inl l) =
        let full = far.full l in
        let within : at ≤ length left = omega arith in
        let front : length (take at left) ≡ at = length-take-le at left within in
        let behind : length (drop at left) ≡ length left - at = length-drop at left in
        let one : length (drop at left) ≡ 64 = omega arith in
        let few = far.made_few in
        record {
          whole = still_whole all left ps at far.whole;
          fewer = omega arith;
          cut = one_before (drop at left) ps (length all - length left) (length all - length (take at left)) (omega arith) (omega arith) (λ m. absurd (omega arith)) (omega arith) far.cut;
          full = λ _. omega arith;
          unmade = λ m. absurd (omega arith);
          made_few = omega arith;
        }
    more all left ps begun made at far many e (inr l) =
        let fewer = far.fewer in
        let unmade = far.unmade (omega arith) in
        let within : at ≤ length left = omega arith in
        let front : length (take at left) ≡ at = length-take-le at left within in
        let behind : length (drop at left) ≡ length left - at = length-drop at left in
        record {
          whole = still_whole all left ps at far.whole;
          fewer = omega arith;
          cut = one_before (drop at left) ps (length all - length left) (length all - length (take at left)) (omega arith) (omega arith) (λ _. omega arith) (omega arith) far.cut;
          full = λ _. omega arith;
          unmade = λ m. absurd (omega arith);
          made_few = omega arith;
        }
