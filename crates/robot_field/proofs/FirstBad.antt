-- A field text has no bad line, and the first bad line of a text is one.
use Rattle.std.proofs.Common.{◌≡◌, ℕ, zero, suc, ◌+◌, List, [], ◌∷◌, take, ⊎_elim, ◌⊎◌, inl, inr, refl, sym, ap, subst, ◌∙◌, arith}
use Rattle.std.specs.Prelude.{Result, Ok, Err, IfOk}
use Rattle.robot_field.specs.declared.text.Mark.{Mark}
use Rattle.robot_field.specs.declared.text.Header.{Header}
use Rattle.robot_field.specs.declared.field.FieldRefusal.{FieldRefusal}
use Rattle.robot_field.specs.declared.field.FieldRefusal.TheVariants.{BadField, Memory}
use Rattle.robot_field.specs.Board.{Board}
use Rattle.robot_field.specs.FieldText.{opened, marked, IsHeaderLine, IsMarkLine, Marks, IsFieldText, IsBadMarkAt, IsFirstBad}
use Rattle.robot_field.proofs.Spellings.{header_same, mark_same}

pub one_header : (line : List ℕ) (h k : Header) → IsHeaderLine line h → IsHeaderLine line k → h ≡ k
one_header line h k p q = header_same h k p.counted q.counted (sym p.text ∙ q.text)

pub one_mark : (b : Board) (line : List ℕ) (m n : Mark) → IsMarkLine b line m → IsMarkLine b line n → m ≡ n
one_mark b line m n p q = mark_same m n p.counted q.counted (sym p.text ∙ q.text)

-- the bad place behind a line that is a mark
behind : (b : Board) (line : List ℕ) (lines : List (List ℕ)) (place : ℕ) (m : Mark) → IsMarkLine b line m → IsBadMarkAt b (line ∷ lines) (suc place) → IsBadMarkAt (marked b m) lines place
behind b line lines place m is bad =
    let same : m ≡ bad.before.0 = one_mark b line m bad.before.0 is bad.before.1 in
    record { left = bad.left; before = subst (λ n. Marks (marked b n) (take place lines) bad.left) (sym same) bad.before.2; within = omega (arith, bad.within); bad = bad.bad }

-- a bad line at the front is no mark
front_bad : (b : Board) (line : List ℕ) (lines : List (List ℕ)) → IsBadMarkAt b (line ∷ lines) zero → (m : Mark) → IsMarkLine b line m → ⊥
front_bad b line lines bad m is = bad.bad m (subst (λ c. IsMarkLine c line m) (sym bad.before) is)

one_bad_mark : (b : Board) (lines : List (List ℕ)) (p q : ℕ) → IsBadMarkAt b lines p → IsBadMarkAt b lines q → p ≡ q
one_bad_mark b [] p q s r = absurd (omega (arith, s.within))
one_bad_mark b (line ∷ lines) zero zero s r = refl
one_bad_mark b (line ∷ lines) zero (suc q) s r = absurd (front_bad b line lines s r.before.0 r.before.1)
one_bad_mark b (line ∷ lines) (suc p) zero s r = absurd (front_bad b line lines r s.before.0 s.before.1)
one_bad_mark b (line ∷ lines) (suc p) (suc q) s r =
    let m = s.before.0 in
    let is = s.before.1 in
    ap suc (one_bad_mark (marked b m) lines p q (behind b line lines p m is s) (behind b line lines q m is r))

no_bad_mark : (b c : Board) (lines : List (List ℕ)) (place : ℕ) → Marks b lines c → IsBadMarkAt b lines place → ⊥
no_bad_mark b c [] place marks bad = omega (arith, bad.within)
no_bad_mark b c (line ∷ lines) zero marks bad = front_bad b line lines bad marks.0 marks.1
no_bad_mark b c (line ∷ lines) (suc place) marks bad = no_bad_mark (marked b marks.0) c lines place marks.2 (behind b line lines place marks.0 marks.1 bad)

abbrev BadFirst : List ℕ → ℕ → Type 0
BadFirst line n = (n ≡ 1) × ((h : Header) → IsHeaderLine line h → ⊥)

abbrev BadLater : List ℕ → List (List ℕ) → ℕ → Type 0
BadLater line lines n = (h : Header) × (place : ℕ) × IsHeaderLine line h × IsBadMarkAt (opened h) lines place × (n ≡ place + 2)

pub apart : (lines : List (List ℕ)) (b : Board) (n : ℕ) → IsFieldText lines b → IsFirstBad lines n → ⊥
apart [] b n text bad = text
apart (line ∷ lines) b n text bad =
    ⊎_elim
    (λ (first : BadFirst line n). first.1 text.0 text.1)
    (λ (later : BadLater line lines n).
    let same : text.0 ≡ later.0 = one_header line text.0 later.0 text.1 later.2 in
    no_bad_mark (opened later.0) b lines later.1 (subst (λ h. Marks (opened h) lines b) same text.2) later.3)
    bad

pub one_first_bad : (lines : List (List ℕ)) (m n : ℕ) → IsFirstBad lines m → IsFirstBad lines n → m ≡ n
one_first_bad [] m n p q = p ∙ sym q
one_first_bad (line ∷ lines) m n p q =
    ⊎_elim
    (λ (first : BadFirst line m). ⊎_elim
    (λ (other : BadFirst line n). first.0 ∙ sym other.0)
    (λ (later : BadLater line lines n). absurd (first.1 later.0 later.2))
    q)
    (λ (later : BadLater line lines m). ⊎_elim
    (λ (first : BadFirst line n). absurd (first.1 later.0 later.2))
    (λ (other : BadLater line lines n).
    let same : later.0 ≡ other.0 = one_header line later.0 other.0 later.2 other.2 in
    let place = one_bad_mark (opened later.0) lines later.1 other.1 later.3 (subst (λ h. IsBadMarkAt (opened h) lines other.1) (sym same) other.3) in
    omega (arith, later.4, other.4, place))
    q)
    p

-- what a reading of lines with a bad line can answer
pub answers_bad : (lines : List (List ℕ)) (r : Result Board FieldRefusal) → IfOk r (λ f. IsFieldText lines f) → ((n : ℕ) → r ≡ Err (BadField n) → IsFirstBad lines n) → (n : ℕ) → IsFirstBad lines n → (r ≡ Err (BadField n)) ⊎ (r ≡ Err Memory)
answers_bad lines (Ok f) text bad n first = absurd (apart lines f n text first)
answers_bad lines (Err (BadField m)) text bad n first = inl (ap (λ k. Err (BadField k)) (one_first_bad lines m n (bad m refl) first))
answers_bad lines (Err Memory) text bad n first = inr refl
