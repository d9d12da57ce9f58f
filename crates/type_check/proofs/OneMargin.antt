-- Faults have at most one margin: two margins of them have the same marks, and stand in the same order.
use Rattle.std.proofs.Common.{◌≡◌, ℕ, suc, ◌<◌, ◌≤◌, List, [], ◌∷◌, Contains, refl, sym, ap, subst, ◌∙◌, arith}
use mathlib.Core.Logic.{◌⊎◌, inl, inr}
use Rattle.std.proofs.lemmas.List.Elements.{Contains-append_right, Contains-append_cases, All-contains, All-from_recursion}
use Rattle.kumir_tree.specs.declared.unit.Fault.{Fault}
use Rattle.margins.specs.declared.margin.Mark.{Mark}
use Rattle.margins.specs.Marks.{IsRising}
use Rattle.type_check.specs.Margin.{IsMarginOf, fault_of}

-- ---- members

first_stands : (m : Mark) (ms : List Mark) → Contains (m ∷ ms) m
first_stands m ms = (0, omega arith, refl)

none_stands : (m : Mark) → Contains [] m → ⊥
none_stands m c = omega (arith, c.1)

only_one : (m x : Mark) → Contains (m ∷ []) x → m ≡ x
only_one m x c = All-contains (λ z. m ≡ z) (m ∷ []) x (All-from_recursion (λ z. m ≡ z) (m ∷ []) (refl, _)) c

first_or_later : (m : Mark) (ms : List Mark) (x : Mark) → Contains (m ∷ ms) x → (m ≡ x) ⊎ Contains ms x
first_or_later m ms x c = by (Contains-append_cases (m ∷ []) ms x c)
  where
    by : Contains (m ∷ []) x ⊎ Contains ms x → (m ≡ x) ⊎ Contains ms x
    by (inl d) = inl (only_one m x d)
    by (inr d) = inr d

-- ---- rising lines

rising_rest : (m : Mark) (ms : List Mark) → IsRising (m ∷ ms) → IsRising ms
rising_rest m ms rising = λ i j d before within. rising (suc i) (suc j) d (omega (arith, before)) (omega (arith, within))

rises : (m : Mark) (ms : List Mark) (x : Mark) → IsRising (m ∷ ms) → Contains ms x → m.line < x.line
rises m ms x rising c = subst (λ z. m.line < z.line) c.2 (rising 0 (suc c.0) x (omega arith) (omega (arith, c.1)))

below_itself : (n : ℕ) → n < n → ⊥
below_itself n h = omega (arith, h)

-- one line has one mark
same_mark : (ms : List Mark) (x y : Mark) → IsRising ms → Contains ms x → Contains ms y → x.line ≡ y.line → x ≡ y
same_mark [] x y rising c d line = absurd (none_stands x c)
same_mark (m ∷ ms) x y rising c d line = by (first_or_later m ms x c) (first_or_later m ms y d) (λ r e f. same_mark ms x y r e f line)
  where
    by : (m ≡ x) ⊎ Contains ms x → (m ≡ y) ⊎ Contains ms y → (IsRising ms → Contains ms x → Contains ms y → x ≡ y) → x ≡ y
    by (inl e) (inl f) later = sym e ∙ f
    by (inl e) (inr f) later = absurd (below_itself m.line (subst (λ n. m.line < n) (sym line ∙ ap (λ z. z.line) (sym e)) (rises m ms y rising f)))
    by (inr e) (inl f) later = absurd (below_itself m.line (subst (λ n. m.line < n) (line ∙ ap (λ z. z.line) (sym f)) (rises m ms x rising e)))
    by (inr e) (inr f) later = later (rising_rest m ms rising) e f

-- ---- rising marks by their members

abbrev Within : List Mark → List Mark → Type 0
Within ms ns = (x : Mark) → Contains ms x → Contains ns x

same_first : (m n : Mark) (ms ns : List Mark) → IsRising (m ∷ ms) → IsRising (n ∷ ns) → Within (m ∷ ms) (n ∷ ns) → Within (n ∷ ns) (m ∷ ms) → n ≡ m
same_first m n ms ns up rise there back = by (first_or_later n ns m (there m (first_stands m ms))) (first_or_later m ms n (back n (first_stands n ns)))
  where
    by : (n ≡ m) ⊎ Contains ns m → (m ≡ n) ⊎ Contains ms n → n ≡ m
    by (inl e) f = e
    by (inr e) (inl f) = sym f
    by (inr e) (inr f) = absurd (let below = rises m ms n up f in let above = rises n ns m rise e in omega (arith, below, above))

within_rest : (m : Mark) (ms ns : List Mark) → IsRising (m ∷ ms) → Within (m ∷ ms) (m ∷ ns) → Within ms ns
within_rest m ms ns up there x c = by (first_or_later m ns x (there x (Contains-append_right (m ∷ []) ms x c)))
  where
    by : (m ≡ x) ⊎ Contains ns x → Contains ns x
    by (inl e) = absurd (below_itself m.line (subst (λ z. m.line < z.line) (sym e) (rises m ms x up c)))
    by (inr e) = e

same_marks : (ms ns : List Mark) → IsRising ms → IsRising ns → Within ms ns → Within ns ms → ms ≡ ns
same_marks [] [] up rise there back = refl
same_marks [] (n ∷ ns) up rise there back = absurd (none_stands n (back n (first_stands n ns)))
same_marks (m ∷ ms) [] up rise there back = absurd (none_stands m (there m (first_stands m ms)))
same_marks (m ∷ ms) (n ∷ ns) up rise there back =
    let e = same_first m n ms ns up rise there back in
    let too = subst (λ z. IsRising (z ∷ ns)) e rise in
    let rest = same_marks ms ns (rising_rest m ms up) (rising_rest m ns too)
    (within_rest m ms ns up (subst (λ z. Within (m ∷ ms) (z ∷ ns)) e there))
    (within_rest m ns ms too (subst (λ z. Within (z ∷ ns) (m ∷ ms)) e back)) in
    ap (λ l. m ∷ l) rest ∙ ap (λ z. z ∷ ns) (sym e)

-- ---- margins

mark : ℕ → ℕ → Mark
mark l c = record { line = l; code = c }

equal_codes : (m n : Mark) → m.line ≡ n.line → m.code ≡ n.code → m ≡ n
unfolding mark
equal_codes m n line code = ap (λ l. mark l m.code) line ∙ ap (mark n.line) code

-- the other margin has a mark on the line with a code that is no larger, and so this one has too
stands_in_both : (faults : List Fault) (a b : List Mark) → IsMarginOf faults a → IsMarginOf faults b → Within a b
stands_in_both faults a b one other m c =
    let n = other.least (fault_of m) (one.stands m c) in
    let o = one.least (fault_of n.0) (other.stands n.0 n.1) in
    let own : o.0 ≡ m = same_mark a o.0 m one.rising o.1 c (o.2 ∙ n.2) in
    let back : m.code ≤ n.0.code = subst (λ z. z.code ≤ n.0.code) own o.3 in
    let code : n.0.code ≡ m.code = let up = n.3 in omega (arith, back, up) in
    subst (Contains b) (equal_codes n.0 m n.2 code) n.1

pub has_one_margin : (faults : List Fault) (a b : List Mark) → IsMarginOf faults a → IsMarginOf faults b → a ≡ b
has_one_margin faults a b one other = same_marks a b one.rising other.rising (stands_in_both faults a b one other) (stands_in_both faults b a other one)
