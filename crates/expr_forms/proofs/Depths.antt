-- How many brackets are open behind one more token.
use Rattle.std.proofs.Common.{◌≡◌, ℕ, ◌+◌, ◌<◌, ◌≤◌, List, [], ◌∷◌, ◌++◌, length, take, get_or, ap, sym, ◌∙◌, arith}
use Rattle.std.proofs.lemmas.List.{take-map, map_more}
use Rattle.std.proofs.lemmas.List.Sums.{fold-append}
use Rattle.kumir_tree.specs.declared.token.Token.{Token}
use Rattle.kumir_tree.specs.declared.token.Spanned.{Spanned}
use Rattle.expr_forms.specs.Tokens.{tokens_of}
use Rattle.expr_forms.specs.Brackets.{open_after, open_behind}

pub behind_more : (xs : List Spanned) (i new old : ℕ) (x : Spanned) → i < length xs → x ≡ get_or xs i x → old ≡ open_behind (take i (tokens_of xs)) → new ≡ open_after old x.token
    → new ≡ open_behind (take (i + 1) (tokens_of xs))
behind_more xs i new old x lt is o c =
    let f : Spanned → Token = λ s. s.token in
    let split : take (i + 1) (tokens_of xs) ≡ tokens_of (take i xs) ++ (get_or xs i x).token ∷ [] = take-map f (i + 1) xs ∙ map_more f xs i x lt in
    let before : old ≡ open_behind (tokens_of (take i xs)) = o ∙ ap open_behind (take-map f i xs) in
    let whole : open_behind (take (i + 1) (tokens_of xs)) ≡ open_after (open_behind (tokens_of (take i xs))) (get_or xs i x).token = ap open_behind split ∙ fold-append open_after 0 (tokens_of (take i xs)) ((get_or xs i x).token ∷ []) in
    c ∙ ap (λ s. open_after old s.token) is ∙ ap (λ n. open_after n (get_or xs i x).token) before ∙ sym whole

pub few_more : (f : ℕ → ℕ) (i most : ℕ) → ((n : ℕ) → n ≤ i → f n ≤ most) → f (i + 1) ≤ most → (n : ℕ) → n ≤ i + 1 → f n ≤ most
few_more f i most few here n h = grind (arith, few n)
