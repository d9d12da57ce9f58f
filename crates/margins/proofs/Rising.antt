-- The last mark of a margin stands on its greatest line.
use Rattle.std.proofs.Common.{◌≡◌, ℕ, ◌-◌, ◌<◌, List, length, get_or, ◌⊎◌, ⊎_elim, sym, ap, subst, arith}
use Rattle.std.specs.Bool.{IsTrue}
use Rattle.std.specs.Prelude.{nat_lt, ◌↔◌}
use Rattle.std.proofs.lemmas.Bool.Decides.{Decides-ltb}
use Rattle.margins.specs.declared.margin.Mark.{Mark}
use Rattle.margins.specs.Marks.{IsRising, IsBefore}

abbrev IsLast : List Mark → Mark → Type 0
IsLast ms m = (d : Mark) → m ≡ get_or ms (length ms - 1) d

last_or_before : (k n : ℕ) → k < n → (k ≡ n - 1) ⊎ (k < n - 1)
last_or_before k n h = grind arith

before_from_last : (ms : List Mark) (m : Mark) (n : ℕ) → IsRising ms → IsLast ms m → m.line < n → IsBefore ms n
before_from_last ms m n rising last below k d within =
    let at : m.line ≡ (get_or ms (length ms - 1) d).line = ap (λ x. x.line) (last d) in
    ⊎_elim
    (λ (is : k ≡ length ms - 1). subst (λ j. (get_or ms j d).line < n) (sym is) (omega arith))
    (λ (less : k < length ms - 1). let rises = rising k (length ms - 1) d less (omega arith) in omega arith)
    (last_or_before k (length ms) within)

pub before-by_last : (ms : List Mark) (m : Mark) (n : ℕ) → IsRising ms → 0 < length ms → IsLast ms m → IsTrue (nat_lt m.line n) ↔ IsBefore ms n
before-by_last ms m n rising some last = (
  λ test. before_from_last ms m n rising last ((Decides-ltb m.line n).0 test),
  λ before. (Decides-ltb m.line n).1 (let at : m.line ≡ (get_or ms (length ms - 1) m).line = ap (λ x. x.line) (last m) in let below = before (length ms - 1) m (omega arith) in omega arith),
)
