-- Each list of faults has a margin: one fault after another is put among the marks.
use Rattle.std.proofs.Common.{◌≡◌, ℕ, zero, suc, ◌<◌, ◌≤◌, List, [], ◌∷◌, Contains, refl, sym, ap, subst, ◌∙◌, arith}
use Rattle.std.specs.Bool.{⊤}
use mathlib.Core.Logic.{◌⊎◌, inl, inr}
use Rattle.std.specs.List.{AllByRecursion}
use Rattle.std.proofs.lemmas.Bool.{cases_lt}
use Rattle.std.proofs.lemmas.List.Elements.{Contains-append_right, Contains-append_cases, All-contains, All-from_recursion}
use Rattle.kumir_tree.specs.declared.unit.Fault.{Fault}
use Rattle.margins.specs.declared.margin.Mark.{Mark}
use Rattle.margins.specs.Marks.{IsRising}
use Rattle.type_check.specs.Margin.{IsMarginOf, HasMark, fault_of}

-- ---- members by recursion

abbrev In : {X : Type 0} → X → List X → Type 0
In x [] = ⊥
In x (y ∷ ys) = (y ≡ x) ⊎ In x ys

in_contains : {X : Type 0} (xs : List X) (x : X) → In x xs → Contains xs x
in_contains [] x h = absurd h
in_contains {X} (y ∷ ys) x h = by h (λ later. in_contains ys x later)
  where
    by : (y ≡ x) ⊎ In x ys → (In x ys → Contains ys x) → Contains (y ∷ ys) x
    by (inl e) more = subst (Contains (y ∷ ys)) e (0, omega arith, refl)
    by (inr later) more = Contains-append_right (y ∷ []) ys x (more later)

contains_in : {X : Type 0} (xs : List X) (x : X) → Contains xs x → In x xs
contains_in [] x c = absurd (omega (arith, c.1))
contains_in {X} (y ∷ ys) x c = by (Contains-append_cases (y ∷ []) ys x c) (λ d. contains_in ys x d)
  where
    by : Contains (y ∷ []) x ⊎ Contains ys x → (Contains ys x → In x ys) → (y ≡ x) ⊎ In x ys
    by (inl d) more = inl (All-contains (λ z. y ≡ z) (y ∷ []) x (All-from_recursion (λ z. y ≡ z) (y ∷ []) (refl, _)) d)
    by (inr d) more = inr (more d)

-- ---- rising lines by recursion

abbrev Above : ℕ → List Mark → Type 0
Above l ms = AllByRecursion (λ m. l < m.line) ms

abbrev Up : List Mark → Type 0
Up [] = ⊤
Up (m ∷ ms) = Above m.line ms × Up ms

above_lower : (k l : ℕ) (ms : List Mark) → k ≤ l → Above l ms → Above k ms
above_lower k l [] le all = _
above_lower k l (m ∷ ms) le all = (omega (arith, le, all.0), above_lower k l ms le all.1)

rises_more : (m : Mark) (ms : List Mark) → Above m.line ms → IsRising ms → IsRising (m ∷ ms)
rises_more m ms all rising i zero d before within = absurd (omega (arith, before))
rises_more m ms all rising zero (suc j) d before within = All-from_recursion (λ n. m.line < n.line) ms all j d (omega (arith, within))
rises_more m ms all rising (suc i) (suc j) d before within = rising i j d (omega (arith, before)) (omega (arith, within))

up_rises : (ms : List Mark) → Up ms → IsRising ms
up_rises [] up = λ i j d before within. absurd (omega (arith, within))
up_rises (m ∷ ms) up = rises_more m ms up.0 (up_rises ms up.1)

-- ---- one more fault

abbrev mark_of : Fault → Mark
mark_of f = record { line = f.line; code = f.code }

-- a mark on the line of the fault, with a code that is not larger
abbrev Marked : List Mark → Fault → Type 0
Marked ms f = (m : Mark) × In m ms × (m.line ≡ f.line) × (m.code ≤ f.code)

marked_later : (m : Mark) (ms : List Mark) (f : Fault) → Marked ms f → Marked (m ∷ ms) f
marked_later m ms f h = (h.0, inr h.1, h.2, h.3)

-- the marks, and what they are with the mark of one more fault
record Inserted (f : Fault) (ms ns : List Mark) : Type 0 where
  up : Up ns
  above : (l : ℕ) → Above l ms → l < f.line → Above l ns
  from : (x : Mark) → In x ns → (mark_of f ≡ x) ⊎ In x ms
  has : Marked ns f
  keeps : (g : Fault) → Marked ms g → Marked ns g

in_front : (f : Fault) (m : Mark) (ms : List Mark) → Up (m ∷ ms) → f.line < m.line → Inserted f (m ∷ ms) (mark_of f ∷ m ∷ ms)
in_front f m ms up lt = record {
  up = ((lt, above_lower f.line m.line ms (omega (arith, lt)) up.0), up);
  above = λ l all low. (low, all);
  from = λ x h. h;
  has = (mark_of f, inl refl, refl, omega arith);
  keeps = λ g h. marked_later (mark_of f) (m ∷ ms) g h;
}

further_on : (f : Fault) (m : Mark) (ms ns : List Mark) → Up (m ∷ ms) → m.line < f.line → Inserted f ms ns → Inserted f (m ∷ ms) (m ∷ ns)
further_on f m ms ns up lt i = record {
  up = (i.above m.line up.0 lt, i.up);
  above = λ l all low. (all.0, i.above l all.1 low);
  from = λ x h. origin x h;
  has = marked_later m ns f i.has;
  keeps = λ g h. kept g h.0 h.1 h.2 h.3;
}
  where
    origin : (x : Mark) → (m ≡ x) ⊎ In x ns → (mark_of f ≡ x) ⊎ ((m ≡ x) ⊎ In x ms)
    origin x (inl e) = inr (inl e)
    origin x (inr h) = later (i.from x h)
      where
        later : (mark_of f ≡ x) ⊎ In x ms → (mark_of f ≡ x) ⊎ ((m ≡ x) ⊎ In x ms)
        later (inl e) = inl e
        later (inr h) = inr (inr h)

    kept : (g : Fault) (n : Mark) → (m ≡ n) ⊎ In n ms → n.line ≡ g.line → n.code ≤ g.code → Marked (m ∷ ns) g
    kept g n (inl e) line code = (n, inl e, line, code)
    kept g n (inr h) line code = marked_later m ns g (i.keeps g (n, h, line, code))

in_place : (f : Fault) (m : Mark) (ms : List Mark) → Up (m ∷ ms) → m.line ≡ f.line → f.code < m.code → Inserted f (m ∷ ms) (mark_of f ∷ ms)
in_place f m ms up line code = record {
  up = (subst (λ l. Above l ms) line up.0, up.1);
  above = λ l all low. (low, all.1);
  from = λ x h. origin x h;
  has = (mark_of f, inl refl, refl, omega arith);
  keeps = λ g h. kept g h.0 h.1 h.2 h.3;
}
  where
    origin : (x : Mark) → (mark_of f ≡ x) ⊎ In x ms → (mark_of f ≡ x) ⊎ ((m ≡ x) ⊎ In x ms)
    origin x (inl e) = inl e
    origin x (inr h) = inr (inr h)

    kept : (g : Fault) (n : Mark) → (m ≡ n) ⊎ In n ms → n.line ≡ g.line → n.code ≤ g.code → Marked (mark_of f ∷ ms) g
    kept g n (inl e) on low =
        let same_code : m.code ≡ n.code = ap (λ z. z.code) e in
        (mark_of f, inl refl, sym line ∙ ap (λ z. z.line) e ∙ on, omega (arith, same_code, code, low))
    kept g n (inr h) on low = (n, inr h, on, low)

no_change : (f : Fault) (m : Mark) (ms : List Mark) → Up (m ∷ ms) → m.line ≡ f.line → m.code ≤ f.code → Inserted f (m ∷ ms) (m ∷ ms)
no_change f m ms up line code = record {
  up = up;
  above = λ l all low. all;
  from = λ x h. inr h;
  has = (m, inl refl, line, code);
  keeps = λ g h. h;
}

insert : (f : Fault) (ms : List Mark) → Up ms → (ns : List Mark) × Inserted f ms ns
insert f [] up = (
  mark_of f ∷ [],
  record {
    up = (_, _);
    above = λ l all low. (low, _);
    from = λ x h. h;
    has = (mark_of f, inl refl, refl, omega arith);
    keeps = λ g h. absurd h.1;
  },
)
insert f (m ∷ ms) up = by (cases_lt f.line m.line) (insert f ms up.1)
  where
    by_code : m.line ≡ f.line → (f.code < m.code) ⊎ (m.code ≤ f.code) → (ns : List Mark) × Inserted f (m ∷ ms) ns
    by_code line (inl lt) = (mark_of f ∷ ms, in_place f m ms up line lt)
    by_code line (inr le) = (m ∷ ms, no_change f m ms up line le)

    by_line : m.line ≤ f.line → (m.line < f.line) ⊎ (f.line ≤ m.line) → (ns : List Mark) × Inserted f ms ns → (ns : List Mark) × Inserted f (m ∷ ms) ns
    by_line le (inl lt) more = (m ∷ more.0, further_on f m ms more.0 up lt more.1)
    by_line le (inr ge) more = by_code (omega (arith, le, ge)) (cases_lt f.code m.code)

    by : (f.line < m.line) ⊎ (m.line ≤ f.line) → (ns : List Mark) × Inserted f ms ns → (ns : List Mark) × Inserted f (m ∷ ms) ns
    by (inl lt) more = (mark_of f ∷ m ∷ ms, in_front f m ms up lt)
    by (inr le) more = by_line le (cases_lt m.line f.line) more

-- ---- all faults

record IsMarked (faults : List Fault) (ms : List Mark) : Type 0 where
  up : Up ms
  stands : (x : Mark) → In x ms → In (fault_of x) faults
  least : (g : Fault) → In g faults → Marked ms g

one_more : (f : Fault) (faults : List Fault) (ms ns : List Mark) → IsMarked faults ms → Inserted f ms ns → IsMarked (f ∷ faults) ns
one_more f faults ms ns h i = record {
  up = i.up;
  stands = λ x s. stood x (i.from x s);
  least = λ g s. least g s;
}
  where
    stood : (x : Mark) → (mark_of f ≡ x) ⊎ In x ms → (f ≡ fault_of x) ⊎ In (fault_of x) faults
    stood x (inl e) = inl (ap fault_of e)
    stood x (inr s) = inr (h.stands x s)

    least : (g : Fault) → (f ≡ g) ⊎ In g faults → Marked ns g
    least g (inl e) = subst (Marked ns) e i.has
    least g (inr s) = i.keeps g (h.least g s)

marks_of : (faults : List Fault) → (ms : List Mark) × IsMarked faults ms
marks_of [] = ([], record { up = _; stands = λ x h. absurd h; least = λ g h. absurd h })
marks_of (f ∷ faults) =
    let rest = marks_of faults in
    let more = insert f rest.0 rest.1.up in
    (more.0, one_more f faults rest.0 more.0 rest.1 more.1)

marked_has : (ms : List Mark) (f : Fault) → Marked ms f → HasMark ms f
marked_has ms f h = (h.0, in_contains ms h.0 h.1, h.2, h.3)

pub each_has_margin : (faults : List Fault) → (ms : List Mark) × IsMarginOf faults ms
each_has_margin faults =
    let found = marks_of faults in
    let h = found.1 in (
      found.0,
      record {
        rising = up_rises found.0 h.up;
        stands = λ m c. in_contains faults (fault_of m) (h.stands m (contains_in found.0 m c));
        least = λ f c. marked_has found.0 f (h.least f (contains_in faults f c));
      },
    )
