-- The lines of a span.
use Rattle.std.proofs.Common.{ℕ, zero, suc, ◌+◌, ◌<◌, ◌≤◌, List, [], ◌∷◌, length, get_or, arith}
use Rattle.std.specs.List.{AllByRecursion}
use Rattle.line_pieces.specs.declared.spans.LineSpan.{LineSpan}
use Rattle.line_pieces.specs.Spans.{IsUnitSpan, Cover, AreSpans}

nothing : LineSpan
nothing = record { first = 0; count = 0 }

cover_within : (at : ℕ) (spans : List LineSpan) (end i : ℕ) (d : LineSpan) → Cover at spans end → i < length spans → (get_or spans i d).first + (get_or spans i d).count ≤ end
cover_within at [] end i d c lt = absurd (omega arith)
cover_within at (s ∷ spans) end zero d c lt = omega (arith, c.0, cover_up (at + s.count) spans end c.1)
  where
    cover_up : (from : ℕ) (more : List LineSpan) (end : ℕ) → Cover from more end → from ≤ end
    cover_up from [] end c = omega (arith, c)
    cover_up from (r ∷ more) end c = omega (arith, cover_up (from + r.count) more end c.1)
cover_within at (s ∷ spans) end (suc i) d c lt = cover_within (at + s.count) spans end i d c.1 (omega arith)

cover_from : (at : ℕ) (spans : List LineSpan) (end i : ℕ) (d : LineSpan) → Cover at spans end → i < length spans → at ≤ (get_or spans i d).first
cover_from at [] end i d c lt = absurd (omega arith)
cover_from at (s ∷ spans) end zero d c lt = omega (arith, c.0)
cover_from at (s ∷ spans) end (suc i) d c lt = omega (arith, cover_from (at + s.count) spans end i d c.1 (omega arith))

-- each span begins at a line
pub span_from_one : (lines : List (List ℕ)) (spans : List LineSpan) (i : ℕ) (d : LineSpan) → AreSpans lines spans → i < length spans → 1 ≤ (get_or spans i d).first
span_from_one lines [] i d h lt = absurd h
span_from_one lines (p ∷ spans) i d h lt = cover_from 1 (p ∷ spans) (length lines + 1) i d h.2 lt

-- each span stands within the lines
pub span_within : (lines : List (List ℕ)) (spans : List LineSpan) (i : ℕ) (d : LineSpan) → AreSpans lines spans → i < length spans → (get_or spans i d).first + (get_or spans i d).count ≤ length lines + 1
span_within lines [] i d h lt = absurd h
span_within lines (p ∷ spans) i d h lt = cover_within 1 (p ∷ spans) (length lines + 1) i d h.2 lt

member : {X : Type 0} (P : X → Type 0) (xs : List X) (i : ℕ) (d : X) → AllByRecursion P xs → i < length xs → P (get_or xs i d)
member P [] i d h lt = absurd (omega arith)
member P (x ∷ xs) zero d h lt = h.0
member P (x ∷ xs) (suc i) d h lt = member P xs i d h.1 (omega arith)

-- each span behind the first is that of a unit
pub span_begins : (lines : List (List ℕ)) (spans : List LineSpan) (i : ℕ) (d : LineSpan) → AreSpans lines spans → i < length spans → 0 < i → IsUnitSpan lines (get_or spans i d)
span_begins lines [] i d h lt some = absurd h
span_begins lines (p ∷ spans) zero d h lt some = absurd (omega arith)
span_begins lines (p ∷ spans) (suc i) d h lt some = member (IsUnitSpan lines) spans i d h.1 (omega arith)
