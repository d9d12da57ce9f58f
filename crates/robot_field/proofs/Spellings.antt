-- A line of field text spells at most one header and at most one mark.
use Rattle.std.proofs.Common.{◌≡◌, ℕ, ◌^◌, ◌<◌, get_or, List, [], ◌∷◌, ◌++◌, drop, refl, sym, ap, arith}
use Rattle.std.specs.Fmt.{decimal}
use Rattle.std.specs.List.{AllByRecursion}
use Rattle.std.proofs.lemmas.Fmt.{decimal_by_steps, decimal_injective}
use Rattle.robot_field.specs.declared.text.MarkKind.{MarkKind}
use Rattle.robot_field.specs.declared.text.MarkKind.TheVariants.{Paint, RightWall, BelowWall}
use Rattle.robot_field.specs.declared.text.Mark.{Mark}
use Rattle.robot_field.specs.declared.text.Header.{Header}
use Rattle.robot_field.specs.Text.{kind_word, mark_text, header_text, IsCountedMark, IsCountedHeader}
use Rattle.robot_field.specs.Numbers.{IsCount, pair_text}

-- no blank is among them
abbrev NoBlank : List ℕ → Type 0
NoBlank text = AllByRecursion (λ c. c ≡ 32 → ⊥) text

no_blank_append : (xs ys : List ℕ) → NoBlank xs → NoBlank ys → NoBlank (xs ++ ys)
no_blank_append [] ys p q = q
no_blank_append (x ∷ xs) ys p q = (p.0, no_blank_append xs ys p.1 q)

decimal_no_blank : (n : ℕ) → n < 2 ^ 64 → NoBlank (decimal n)
decimal_no_blank = decimal_by_steps (λ n ds. NoBlank ds) (λ n lt. (λ e. omega arith, tt)) (λ n ds ge p. no_blank_append ds _ p (λ e. omega arith, tt))

first_blank : (a b x y : List ℕ) → NoBlank a → NoBlank b → a ++ 32 ∷ x ≡ b ++ 32 ∷ y → (a ≡ b) × (x ≡ y)
first_blank [] [] x y p q e = (refl, ap (λ l. drop 1 l) e)
first_blank [] (c ∷ b) x y p q e = absurd (q.0 (sym (ap (λ l. get_or l 0 0) e)))
first_blank (c ∷ a) [] x y p q e = absurd (p.0 (ap (λ l. get_or l 0 0) e))
first_blank (c ∷ a) (d ∷ b) x y p q e =
    let head : c ≡ d = ap (λ l. get_or l 0 0) e in
    let rest = first_blank a b x y p.1 q.1 (ap (λ l. drop 1 l) e) in
    (λ i. head i ∷ rest.0 i, rest.1)

small : (n : ℕ) → IsCount n → n < 2 ^ 64
small n h = omega (arith, h.1)

same_number : (m n : ℕ) → IsCount m → IsCount n → decimal m ≡ decimal n → m ≡ n
same_number m n p q e = decimal_injective m n (small m p) (small n q) e

pair_same : (x y v w : ℕ) → IsCount x → IsCount y → IsCount v → IsCount w → pair_text x y ≡ pair_text v w → (x ≡ v) × (y ≡ w)
pair_same x y v w cx cy cv cw e =
    let parts = first_blank (decimal x) (decimal v) (decimal y) (decimal w) (decimal_no_blank x (small x cx)) (decimal_no_blank v (small v cv)) e in
    (same_number x v cx cv parts.0, same_number y w cy cw parts.1)

pub header_same : (h k : Header) → IsCountedHeader h → IsCountedHeader k → header_text h ≡ header_text k → h ≡ k
header_same h k p q e =
    let first = first_blank (decimal h.width) (decimal k.width) _ _ (decimal_no_blank h.width (small h.width p.width)) (decimal_no_blank k.width (small k.width q.width)) e in
    let second = first_blank (decimal h.height) (decimal k.height) _ _ (decimal_no_blank h.height (small h.height p.height)) (decimal_no_blank k.height (small k.height q.height)) first.1 in
    let width = same_number h.width k.width p.width q.width first.0 in
    let height = same_number h.height k.height p.height q.height second.0 in
    let pair = pair_same h.x h.y k.x k.y p.x p.y q.x q.y second.1 in
    (λ i. record { width = width i; height = height i; x = pair.0 i; y = pair.1 i })

word_no_blank : (k : MarkKind) → NoBlank (kind_word k)
word_no_blank Paint = (λ e. omega arith, (λ e. omega arith, (λ e. omega arith, (λ e. omega arith, (λ e. omega arith, tt)))))
word_no_blank RightWall = (λ e. omega arith, (λ e. omega arith, (λ e. omega arith, (λ e. omega arith, (λ e. omega arith, tt)))))
word_no_blank BelowWall = (λ e. omega arith, (λ e. omega arith, (λ e. omega arith, (λ e. omega arith, (λ e. omega arith, tt)))))

word_same : (k j : MarkKind) → kind_word k ≡ kind_word j → k ≡ j
word_same Paint Paint e = refl
word_same Paint RightWall e = absurd (let h : 112 ≡ 114 = ap (λ l. get_or l 0 0) e in omega arith)
word_same Paint BelowWall e = absurd (let h : 112 ≡ 98 = ap (λ l. get_or l 0 0) e in omega arith)
word_same RightWall Paint e = absurd (let h : 114 ≡ 112 = ap (λ l. get_or l 0 0) e in omega arith)
word_same RightWall RightWall e = refl
word_same RightWall BelowWall e = absurd (let h : 114 ≡ 98 = ap (λ l. get_or l 0 0) e in omega arith)
word_same BelowWall Paint e = absurd (let h : 98 ≡ 112 = ap (λ l. get_or l 0 0) e in omega arith)
word_same BelowWall RightWall e = absurd (let h : 98 ≡ 114 = ap (λ l. get_or l 0 0) e in omega arith)
word_same BelowWall BelowWall e = refl

pub mark_same : (m n : Mark) → IsCountedMark m → IsCountedMark n → mark_text m ≡ mark_text n → m ≡ n
mark_same m n p q e =
    let first = first_blank (kind_word m.kind) (kind_word n.kind) _ _ (word_no_blank m.kind) (word_no_blank n.kind) e in
    let kind = word_same m.kind n.kind first.0 in
    let pair = pair_same m.x m.y n.x n.y p.x p.y q.x q.y first.1 in
    (λ i. record { kind = kind i; x = pair.0 i; y = pair.1 i })
