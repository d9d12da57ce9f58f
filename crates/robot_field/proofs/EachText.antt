-- Each list of lines is the text of exactly one field, or has exactly one first wrong line. That some line is a header or
-- a mark is decided by a search for its numbers, which the size of a field bounds.
use Rattle.std.proofs.Common.{◌≡◌, ◌≤◌, ◌<◌, ◌+◌, ◌^◌, ◌&&◌, ℕ, zero, suc, Bool, true, false, true≢false, Decides, List, [], ◌∷◌, bytes_eq, encode_utf8_all, nat_le, nat_lt, ⊎_elim, ◌⊎◌, inl, inr, refl, sym, subst, ◌∙◌, leb-true, ltb-true, arith}
use Rattle.std.proofs.Math.Decide.{map_dec, dec_lt}
use Rattle.std.proofs.lemmas.Bool.{cases_lt}
use Rattle.std.proofs.lemmas.Slice.Eq.{bytes_eq-Decides}
use Rattle.robot_field.specs.declared.text.MarkKind.{MarkKind}
use Rattle.robot_field.specs.declared.text.MarkKind.TheVariants.{Paint, RightWall, BelowWall}
use Rattle.robot_field.specs.declared.text.Mark.{Mark}
use Rattle.robot_field.specs.declared.text.Header.{Header}
use Rattle.robot_field.specs.Board.{Board}
use Rattle.robot_field.specs.Numbers.{IsCount}
use Rattle.robot_field.specs.Text.{mark_text, header_text, IsCountedMark, IsCountedHeader}
use Rattle.robot_field.specs.FieldText.{opened, is_placed, fits, fits_kind, marked, IsHeaderLine, IsMarkLine, Marks, IsFieldText, IsBadMarkAt, IsFirstBad}
use Rattle.robot_field.specs.Laws.{EachTextIsAnswered}
use Rattle.robot_field.proofs.FirstBad.{one_header, one_mark, apart, one_first_bad}

-- ---- what can be decided

both : {P Q : Type 0} → Dec P → Dec Q → Dec (P × Q)
both (yes p) (yes q) = yes (p, q)
both (yes p) (no q) = no (λ h. q h.1)
both (no p) q = no (λ h. p h.0)

from_test : {P : Type 0} (r : Bool) → Decides r P → Dec P
from_test true d = yes (d.0 refl)
from_test false d = no (λ p. true≢false (sym (d.1 p)))

is_true : (r : Bool) → Dec (r ≡ true)
is_true r = from_test r (λ e. e, λ e. e)

same_text : (xs ys : List ℕ) → Dec (xs ≡ ys)
same_text xs ys = from_test (bytes_eq xs ys) (bytes_eq-Decides xs ys)

is_count : (n : ℕ) → Dec (IsCount n)
is_count n = both (dec_lt 0 n) (dec_lt n (2 ^ 32))

-- ---- the search for a number with a bound

abbrev SomeBelow : (ℕ → Type 0) → ℕ → Type 0
SomeBelow P most = (n : ℕ) × (n < most) × P n

one_more : (P : ℕ → Type 0) (most : ℕ) → Dec (P most) → Dec (SomeBelow P most) → Dec (SomeBelow P (suc most))
one_more P most (yes here) less = yes (most, omega arith, here)
one_more P most (no here) (yes less) = let below : less.0 < suc most = omega (arith, less.1) in yes (less.0, below, less.2)
one_more P most (no here) (no less) =
    no (λ h. ⊎_elim
    (λ (below : h.0 < most). less (h.0, below, h.2))
    (λ (above : most ≤ h.0). here (subst P (let e : h.0 ≡ most = omega (arith, h.1) in e) h.2))
    (cases_lt h.0 most))

some_below : (P : ℕ → Type 0) → ((n : ℕ) → Dec (P n)) → (most : ℕ) → Dec (SomeBelow P most)
some_below P test zero = no (λ h. let none : h.0 < 0 = h.1 in omega arith)
some_below P test (suc most) = one_more P most (test most) (some_below P test most)

some_number : (P : ℕ → Type 0) (most : ℕ) → ((n : ℕ) → Dec (P n)) → ((n : ℕ) → P n → n ≤ most) → Dec ((n : ℕ) × P n)
some_number P most test bound =
    map_dec (λ h. (h.0, h.2)) (λ h. let at_most = bound h.0 h.1 in (h.0, omega arith, h.1)) (some_below P test (suc most))

-- ---- a header line

and_true : (x y : Bool) → (x && y) ≡ true → (x ≡ true) × (y ≡ true)
and_true true y e = (refl, e)
and_true false y e = absurd (true≢false (sym e))

record IsWithin (h : Header) : Type 0 where
  width : h.width ≤ 128
  height : h.height ≤ 128
  x : h.x ≤ 128
  y : h.y ≤ 128

within : (h : Header) → is_placed h ≡ true → IsWithin h
within h e =
    let last = and_true (nat_le h.width 128 && nat_le h.height 128 && nat_le h.x h.width) (nat_le h.y h.height) e in
    let third = and_true (nat_le h.width 128 && nat_le h.height 128) (nat_le h.x h.width) last.0 in
    let size = and_true (nat_le h.width 128) (nat_le h.height 128) third.0 in
    let width = leb-true h.width 128 size.0 in
    let height = leb-true h.height 128 size.1 in
    let left = leb-true h.x h.width third.1 in
    let top = leb-true h.y h.height last.1 in
    record { width = width; height = height; x = omega arith; y = omega arith }

abbrev header : ℕ → ℕ → ℕ → ℕ → Header
header width height x y = record { width = width; height = height; x = x; y = y }

is_counted_header : (h : Header) → Dec (IsCountedHeader h)
is_counted_header h =
    map_dec
    (λ p. record { width = p.0.0; height = p.0.1; x = p.1.0; y = p.1.1 })
    (λ c. ((c.width, c.height), (c.x, c.y)))
    (both (both (is_count h.width) (is_count h.height)) (both (is_count h.x) (is_count h.y)))

is_header : (line : List ℕ) (h : Header) → Dec (IsHeaderLine line h)
is_header line h =
    map_dec
    (λ p. record { counted = p.0.0; text = p.0.1; placed = p.1 })
    (λ is. ((is.counted, is.text), is.placed))
    (both (both (is_counted_header h) (same_text (encode_utf8_all line) (header_text h))) (is_true (is_placed h)))

abbrev SomeHeader : List ℕ → Type 0
SomeHeader line = (h : Header) × IsHeaderLine line h

-- the numbers of a header that are left where the first ones are given
abbrev SomeY : List ℕ → ℕ → ℕ → ℕ → Type 0
SomeY line width height x = (y : ℕ) × IsHeaderLine line (header width height x y)

abbrev SomeX : List ℕ → ℕ → ℕ → Type 0
SomeX line width height = (x : ℕ) × SomeY line width height x

abbrev SomeHeight : List ℕ → ℕ → Type 0
SomeHeight line width = (height : ℕ) × SomeX line width height

some_y : (line : List ℕ) (width height x : ℕ) → Dec (SomeY line width height x)
some_y line width height x =
    some_number (λ y. IsHeaderLine line (header width height x y)) 128
    (λ y. is_header line (header width height x y))
    (λ y is. (within (header width height x y) is.placed).y)

some_x : (line : List ℕ) (width height : ℕ) → Dec (SomeX line width height)
some_x line width height =
    some_number (SomeY line width height) 128
    (some_y line width height)
    (λ x h. (within (header width height x h.0) h.1.placed).x)

some_height : (line : List ℕ) (width : ℕ) → Dec (SomeHeight line width)
some_height line width =
    some_number (SomeX line width) 128
    (some_x line width)
    (λ height h. (within (header width height h.0 h.1.0) h.1.1.placed).height)

header_or_none : (line : List ℕ) → Dec (SomeHeader line)
header_or_none line =
    map_dec
    (λ p. (header p.0 p.1.0 p.1.1.0 p.1.1.1.0, p.1.1.1.1))
    (λ h. (h.0.width, (h.0.height, (h.0.x, (h.0.y, h.1)))))
    (some_number (SomeHeight line) 128
    (some_height line)
    (λ width h. (within (header width h.0 h.1.0 h.1.1.0) h.1.1.1.placed).width))

-- ---- a mark line

within_board : (b : Board) (k : MarkKind) (x y : ℕ) → fits_kind b k x y ≡ true → (x ≤ b.width) × (y ≤ b.height)
within_board b Paint x y e =
    let parts = and_true (nat_le x b.width) (nat_le y b.height) e in
    (leb-true x b.width parts.0, leb-true y b.height parts.1)
within_board b RightWall x y e =
    let parts = and_true (nat_lt x b.width) (nat_le y b.height) e in
    let less = ltb-true x b.width parts.0 in
    (omega arith, leb-true y b.height parts.1)
within_board b BelowWall x y e =
    let parts = and_true (nat_le x b.width) (nat_lt y b.height) e in
    let less = ltb-true y b.height parts.1 in
    (leb-true x b.width parts.0, omega arith)

abbrev mark : MarkKind → ℕ → ℕ → Mark
mark kind x y = record { kind = kind; x = x; y = y }

is_counted_mark : (m : Mark) → Dec (IsCountedMark m)
is_counted_mark m = map_dec (λ p. record { x = p.0; y = p.1 }) (λ c. (c.x, c.y)) (both (is_count m.x) (is_count m.y))

is_mark : (b : Board) (line : List ℕ) (m : Mark) → Dec (IsMarkLine b line m)
is_mark b line m =
    map_dec
    (λ p. record { counted = p.0.0; text = p.0.1; fits_it = p.1 })
    (λ is. ((is.counted, is.text), is.fits_it))
    (both (both (is_counted_mark m) (same_text (encode_utf8_all line) (mark_text m))) (is_true (fits b m)))

some_kind : (P : MarkKind → Type 0) → Dec (P Paint) → Dec (P RightWall) → Dec (P BelowWall) → Dec ((k : MarkKind) × P k)
some_kind P (yes p) r b = yes (Paint, p)
some_kind P (no p) (yes r) b = yes (RightWall, r)
some_kind P (no p) (no r) (yes b) = yes (BelowWall, b)
some_kind P (no p) (no r) (no b) = no (λ h. none h.0 h.1)
  where
    none : (k : MarkKind) → P k → ⊥
    none Paint h = p h
    none RightWall h = r h
    none BelowWall h = b h

-- the numbers of a mark of that kind
abbrev InColumn : Board → List ℕ → MarkKind → ℕ → Type 0
InColumn b line kind x = (y : ℕ) × IsMarkLine b line (mark kind x y)

abbrev OfKind : Board → List ℕ → MarkKind → Type 0
OfKind b line kind = (x : ℕ) × InColumn b line kind x

in_column : (b : Board) (line : List ℕ) (kind : MarkKind) (x : ℕ) → Dec (InColumn b line kind x)
in_column b line kind x =
    some_number (λ y. IsMarkLine b line (mark kind x y)) b.height
    (λ y. is_mark b line (mark kind x y))
    (λ y is. (within_board b kind x y is.fits_it).1)

of_kind : (b : Board) (line : List ℕ) (kind : MarkKind) → Dec (OfKind b line kind)
of_kind b line kind =
    some_number (InColumn b line kind) b.width
    (in_column b line kind)
    (λ x h. (within_board b kind x h.0 h.1.fits_it).0)

abbrev SomeMark : Board → List ℕ → Type 0
SomeMark b line = (m : Mark) × IsMarkLine b line m

mark_or_none : (b : Board) (line : List ℕ) → Dec (SomeMark b line)
mark_or_none b line =
    map_dec
    (λ p. (mark p.0 p.1.0 p.1.1.0, p.1.1.1))
    (λ m. (m.0.kind, (m.0.x, (m.0.y, m.1))))
    (some_kind (OfKind b line) (of_kind b line Paint) (of_kind b line RightWall) (of_kind b line BelowWall))

-- ---- the lines

abbrev SomeEnd : Board → List (List ℕ) → Type 0
SomeEnd b lines = (c : Board) × Marks b lines c

abbrev SomeBad : Board → List (List ℕ) → Type 0
SomeBad b lines = (place : ℕ) × IsBadMarkAt b lines place

behind_mark : (b : Board) (line : List ℕ) (lines : List (List ℕ))
    → ((c : Board) → SomeEnd c lines ⊎ SomeBad c lines) → Dec (SomeMark b line) → SomeEnd b (line ∷ lines) ⊎ SomeBad b (line ∷ lines)
behind_mark b line lines rest (yes m) =
    ⊎_elim
    (λ (end : SomeEnd (marked b m.0) lines). inl (end.0, (m.0, m.1, end.1)))
    (λ (later : SomeBad (marked b m.0) lines).
    inr (suc later.0, record { left = later.1.left; before = (m.0, m.1, later.1.before); within = omega (arith, later.1.within); bad = later.1.bad }))
    (rest (marked b m.0))
behind_mark b line lines rest (no none) = inr (0, record { left = b; before = refl; within = omega arith; bad = λ m is. none (m, is) })

marks_or_bad : (b : Board) (lines : List (List ℕ)) → SomeEnd b lines ⊎ SomeBad b lines
marks_or_bad b [] = inl (b, refl)
marks_or_bad b (line ∷ lines) = behind_mark b line lines (λ c. marks_or_bad c lines) (mark_or_none b line)

abbrev SomeField : List (List ℕ) → Type 0
SomeField lines = (b : Board) × IsFieldText lines b

abbrev SomeFirstBad : List (List ℕ) → Type 0
SomeFirstBad lines = (n : ℕ) × IsFirstBad lines n

behind_header : (line : List ℕ) (lines : List (List ℕ)) → Dec (SomeHeader line) → SomeField (line ∷ lines) ⊎ SomeFirstBad (line ∷ lines)
behind_header line lines (yes h) =
    ⊎_elim
    (λ (end : SomeEnd (opened h.0) lines). inl (end.0, (h.0, h.1, end.1)))
    (λ (bad : SomeBad (opened h.0) lines). inr (bad.0 + 2, inr (h.0, bad.0, h.1, bad.1, refl)))
    (marks_or_bad (opened h.0) lines)
behind_header line lines (no none) = inr (1, inl (refl, λ h is. none (h, is)))

field_or_bad : (lines : List (List ℕ)) → SomeField lines ⊎ SomeFirstBad lines
field_or_bad [] = inr (1, refl)
field_or_bad (line ∷ lines) = behind_header line lines (header_or_none line)

-- ---- one field

one_end : (b c d : Board) (lines : List (List ℕ)) → Marks b lines c → Marks b lines d → c ≡ d
one_end b c d [] p q = p ∙ sym q
one_end b c d (line ∷ lines) p q =
    let same : q.0 ≡ p.0 = one_mark b line q.0 p.0 q.1 p.1 in
    one_end (marked b p.0) c d lines p.2 (subst (λ m. Marks (marked b m) lines d) same q.2)

one_field : (lines : List (List ℕ)) (b c : Board) → IsFieldText lines b → IsFieldText lines c → b ≡ c
one_field [] b c p q = absurd p
one_field (line ∷ lines) b c p q =
    let same : q.0 ≡ p.0 = one_header line q.0 p.0 q.1 p.1 in
    one_end (opened p.0) b c lines p.2 (subst (λ h. Marks (opened h) lines c) same q.2)

pub each_text_is_answered : EachTextIsAnswered
each_text_is_answered = record { some = field_or_bad; one_field = one_field; one_first_bad = one_first_bad; apart = apart }
