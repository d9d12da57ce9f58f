-- What is given for one more item.
use Rattle.std.proofs.Common.{◌≡◌, List, [], ◌∷◌, ◌++◌, refl, sym, ap, ◌∙◌, append_assoc, append-nil}
use Rattle.actor_kit.specs.Folds.{after_all, given_by}

pub after_one_more : {S I : Type 0} (leads : S → I → S) (s : S) (xs : List I) (x : I) → after_all leads s (xs ++ x ∷ []) ≡ leads (after_all leads s xs) x
after_one_more leads s [] x = refl
after_one_more leads s (y ∷ xs) x = after_one_more leads (leads s y) xs x

pub given_one_more : {S I O : Type 0} (leads : S → I → S) (gives : S → I → List O) (s : S) (xs : List I) (x : I)
    → given_by leads gives s (xs ++ x ∷ []) ≡ given_by leads gives s xs ++ gives (after_all leads s xs) x
given_one_more leads gives s [] x = append-nil (gives s x)
given_one_more leads gives s (y ∷ xs) x =
    ap (λ l. gives s y ++ l) (given_one_more leads gives (leads s y) xs x)
    ∙ sym (append_assoc (gives s y) (given_by leads gives (leads s y) xs) (gives (after_all leads (leads s y) xs) x))

pub given_append : {S I O : Type 0} (leads : S → I → S) (gives : S → I → List O) (s : S) (xs ys : List I)
    → given_by leads gives s (xs ++ ys) ≡ given_by leads gives s xs ++ given_by leads gives (after_all leads s xs) ys
given_append leads gives s [] ys = refl
given_append leads gives s (x ∷ xs) ys =
    ap (λ l. gives s x ++ l) (given_append leads gives (leads s x) xs ys)
    ∙ sym (append_assoc (gives s x) (given_by leads gives (leads s x) xs) (given_by leads gives (after_all leads (leads s x) xs) ys))
