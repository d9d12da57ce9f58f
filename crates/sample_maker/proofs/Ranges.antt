-- Texts of numbers that follow one another.
use Rattle.std.proofs.Common.{◌≡◌, ℕ, zero, suc, ◌+◌, List, [], ◌∷◌, ◌++◌, sym, ap, ◌∙◌, arith}
use Rattle.std.specs.List.{flat_map, range_with_len}
use Rattle.std.proofs.lemmas.List.{flat_map_more}

-- one number more
range_suc : (a n j : ℕ) → a + n ≡ j → range_with_len a (suc n) ≡ range_with_len a n ++ j ∷ []
range_suc a zero j e = let same : a ≡ j = omega (arith, e) in ap (λ k. k ∷ []) same
range_suc a (suc n) j e = ap (λ xs. a ∷ xs) (range_suc (a + 1) n j (omega (arith, e)))

-- the text of one number more behind others
pub text_more : (f : ℕ → List ℕ) (out : List ℕ) (n : ℕ) → (out ++ flat_map f (range_with_len 1 n)) ++ f (n + 1) ≡ out ++ flat_map f (range_with_len 1 (n + 1))
text_more f out n =
    let next : n + 1 ≡ suc n = omega arith in
    flat_map_more f out (range_with_len 1 n) (n + 1)
    ∙ ap (λ xs. out ++ flat_map f xs) (sym (range_suc 1 n (n + 1) (omega arith)))
    ∙ ap (λ k. out ++ flat_map f (range_with_len 1 k)) (sym next)
