-- A text has no more units than lines.
use Rattle.std.proofs.Common.{◌≡◌, ℕ, ◌+◌, ◌-◌, ◌<◌, ◌≤◌, List, [], ◌∷◌, length, take, drop, ap, arith}
use Rattle.std.specs.List.{AllByRecursion}
use Rattle.std.proofs.lemmas.List.{length-take, length-drop}
use Rattle.line_pieces.specs.declared.spans.LineSpan.{LineSpan}
use Rattle.line_pieces.specs.Spans.{IsUnitSpan, Cover, AreSpans}

units_few : (lines : List (List ℕ)) (at end : ℕ) (units : List LineSpan) → AllByRecursion (IsUnitSpan lines) units → Cover at units end → length units + at ≤ end
units_few lines at end [] all cover = omega (arith, cover)
units_few lines at end (u ∷ units) all cover = omega (arith, all.0.some, units_few lines (at + u.count) end units all.1 cover.1)

pub spans_few : (lines : List (List ℕ)) (spans : List LineSpan) → AreSpans lines spans → length spans ≤ length lines + 1
spans_few lines [] are = absurd are
spans_few lines (prelude ∷ units) are = omega (arith, units_few lines (1 + prelude.count) (length lines + 1) units are.1 are.2.1)

-- and a prelude
pub spans_some : (lines : List (List ℕ)) (spans : List LineSpan) → AreSpans lines spans → 1 ≤ length spans
spans_some lines [] are = absurd are
spans_some lines (prelude ∷ units) are = omega arith

-- all lines of a text are no more than it has
pub lines_few : (text lines slice : List (List ℕ)) (count : ℕ) → slice ≡ lines → lines ≡ take count (drop (1 - 1) text) → length text < 4294967295 → length slice < 4294967295
lines_few text lines slice count same piece few =
    omega (arith, ap (λ (l : List (List ℕ)). length l) same, ap (λ (l : List (List ℕ)). length l) piece, length-take count (drop (1 - 1) text), length-drop (1 - 1) text, few)
