-- What holds of each place of a list, found one place after the other.
use Rattle.std.proofs.Common.{◌≡◌, ℕ, ◌+◌, ◌<◌, ◌≤◌, List, length, Some, get_or, sym, ap, ◌∙◌, subst, arith, ⊎_elim}
use Rattle.std.specs.Prelude.{slice_get, ◌⊎◌}
use Rattle.std.proofs.lemmas.Option.{slice_get_within, get_or_from_slice_get}

below_or_at : (k n : ℕ) → k < n + 1 → (k < n) ⊎ (k ≡ n)
below_or_at k n lt = grind (arith, lt)

pub each_more : {A : Type 0} (xs ys : List A) (P : ℕ → A → Type 0) (n : ℕ) (x : A) → ys ≡ xs → x ≡ get_or ys n x → P n x
    → ((k : ℕ) (l : A) → k < n → slice_get xs k ≡ Some l → P k l)
    → (k : ℕ) (l : A) → k < n + 1 → slice_get xs k ≡ Some l → P k l
each_more {A} xs ys P n x same is p before k l lt at = ⊎_elim (λ less. before k l less at) (λ e. here e) (below_or_at k n lt)
  where
    here : k ≡ n → P k l
    here e =
        let found : get_or xs k x ≡ l = get_or_from_slice_get xs k l x at in
        let it : x ≡ l = is ∙ ap (λ zs. get_or zs n x) same ∙ ap (λ m. get_or xs m x) (sym e) ∙ found in
        subst (λ m. P m l) (sym e) (subst (λ w. P n w) it p)

pub each_all : {A : Type 0} (xs ys : List A) (P : ℕ → A → Type 0) (n : ℕ) → ys ≡ xs → length ys ≤ n
    → ((k : ℕ) (l : A) → k < n → slice_get xs k ≡ Some l → P k l) → (k : ℕ) (l : A) → slice_get xs k ≡ Some l → P k l
each_all xs ys P n same le all k l at =
    let within = slice_get_within xs k l at in
    let size = ap length same in
    all k l (omega (arith, within, size)) at
