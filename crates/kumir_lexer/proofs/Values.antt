-- The number that digits write does not fall where digits follow.
use Rattle.std.proofs.Common.{◌≡◌, ℕ, ◌+◌, ◌*◌, ◌-◌, ◌<◌, ◌≤◌, List, [], ◌∷◌, length, take, drop, get_or, arith, sym, ◌∙◌, ap}
use Rattle.std.specs.List.{fold}
use Rattle.std.proofs.lemmas.List.Sums.{fold-append}
use Rattle.std.proofs.lemmas.List.{take_more, take-append-drop}
use Rattle.kumir_lexer.specs.Classes.{value}

abbrev digit_behind : ℕ → ℕ → ℕ
digit_behind n d = 10 * n + (d - 48)

grows : (n : ℕ) (ds : List ℕ) → n ≤ fold digit_behind n ds
grows n [] = omega arith
grows n (d ∷ ds) = omega (arith, grows (10 * n + (d - 48)) ds)

prefix_value : (i : ℕ) (ds : List ℕ) → value (take i ds) ≤ value ds
prefix_value i ds =
    let all : value ds ≡ fold digit_behind (value (take i ds)) (drop i ds) = ap value (sym (take-append-drop i ds)) ∙ fold-append digit_behind 0 (take i ds) (drop i ds) in
    omega (arith, all, grows (value (take i ds)) (drop i ds))

-- one digit more
pub next_value : (ds : List ℕ) (i n x : ℕ) → i < length ds → x ≡ get_or ds i x → n ≡ value (take i ds) → 10 * n + (x - 48) ≤ value ds
next_value ds i n x lt is e =
    let more : value (take (i + 1) ds) ≡ 10 * value (take i ds) + (get_or ds i x - 48) = ap value (take_more ds i x lt) ∙ fold-append digit_behind 0 (take i ds) (get_or ds i x ∷ []) in
    let same : 10 * n + (x - 48) ≡ 10 * value (take i ds) + (get_or ds i x - 48) = ap (λ k. 10 * k + (x - 48)) e ∙ ap (λ k. 10 * value (take i ds) + (k - 48)) is in
    omega (arith, more, same, prefix_value (i + 1) ds)
