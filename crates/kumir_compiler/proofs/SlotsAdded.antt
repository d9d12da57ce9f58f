-- Lists that grow at their end.
use Rattle.std.proofs.Common.{◌≡◌, ℕ, ◌+◌, List, [], ◌∷◌, ◌++◌, replicate, sym, ap, ◌∙◌, append_assoc}
use Rattle.std.proofs.lemmas.List.{append-nil, replicate-append-replicate}

pub nothing_more : {A : Type 0} (xs : List A) → xs ≡ xs ++ []
nothing_more xs = sym (append-nil xs)

pub both_more : {A : Type 0} (one two three a b : List A) → two ≡ one ++ a → three ≡ two ++ b → three ≡ one ++ (a ++ b)
both_more one two three a b e f = f ∙ ap (λ l. l ++ b) e ∙ append_assoc one a b

pub one_more : {A : Type 0} (now first : List A) (x : A) (n : ℕ) → now ≡ first ++ replicate n x → now ++ x ∷ [] ≡ first ++ replicate (n + 1) x
one_more now first x n e =
    ap (λ l. l ++ x ∷ []) e ∙ append_assoc first (replicate n x) (x ∷ []) ∙ ap (λ l. first ++ l) (replicate-append-replicate n 1 x)
