-- The first pair of each line, of pairs in order, are the margin.
use Rattle.std.proofs.Common.{◌≡◌, ℕ, suc, ◌+◌, ◌<◌, ◌≤◌, nat_lt, Bool, true, false, cond, ◌&&◌, List, [], ◌∷◌, ◌++◌, map, Contains, refl, sym, ap, subst, ◌∙◌, slice_index_or, arith, true≢false}
use Rattle.std.specs.Bool.{⊤}
use mathlib.Core.Logic.{◌⊎◌, inl, inr}
use Rattle.std.specs.List.{AllByRecursion}
use Rattle.std.specs.List.Sorted.{IsPermutation, IsSorted}
use Rattle.std.specs.Ordering.{nat_cmp, is_lt, ordering_then, MatchOrdering}
use Rattle.std.specs.declared.cmp.Ordering.TheVariants.{Less, Equal, Greater}
use Rattle.std.specs.Cmp.{ranks}
use Rattle.std.proofs.lemmas.Map.Keys.{ge_from_not_lt}
use Rattle.std.proofs.lemmas.List.Elements.{Contains-push, Contains-push_cases, Contains-append_left, Contains-append_right, Contains-append_cases, All-contains, All-from_recursion}
use Rattle.std.proofs.lemmas.List.Sorted.{Contains-permutation, IsPermutation-sym}
use Rattle.std.proofs.lemmas.List.Sums.{AllPass-from_list_all, list_all-from_AllPass}
use Rattle.kumir_tree.specs.declared.unit.Fault.{Fault}
use Rattle.margins.specs.declared.margin.Mark.{Mark}
use Rattle.margins.specs.Marks.{IsMargin, IsBefore}
use Rattle.type_check.specs.Margin.{IsMarginOf, HasMark, fault_of}
use Rattle.type_check.specs.Kept.{pair_of, pair_order, mark_at, all_before, kept}

-- ---- the test

below_true : (a b : ℕ) → nat_lt a b ≡ true → a < b
below_true a b e = grind (arith, e)

true_below : (a b : ℕ) → a < b → nat_lt a b ≡ true
true_below a b e = grind (arith, e)

not_below : (a b : ℕ) → nat_lt a b ≡ false → a < b → ⊥
not_below a b e f = grind (arith, e, f)

all_true : (marks : List Mark) (line : ℕ) → IsBefore marks line → all_before marks line ≡ true
all_true marks line all = list_all-from_AllPass (λ m. nat_lt m.line line) marks (λ k d within. true_below _ _ (all k d within))

true_all : (marks : List Mark) (line : ℕ) → all_before marks line ≡ true → IsBefore marks line
true_all marks line e = λ k d within. below_true _ _ (AllPass-from_list_all (λ m. nat_lt m.line line) marks e k d within)

same_answer : (a b : Bool) → (a ≡ true → b ≡ true) → (b ≡ true → a ≡ true) → a ≡ b
same_answer true b there back = sym (there refl)
same_answer false true there back = back refl
same_answer false false there back = refl

pub before_test : (test : Bool) (marks : List Mark) (line : ℕ) → (test ≡ true → IsBefore marks line) × (IsBefore marks line → test ≡ true) → test ≡ all_before marks line
before_test test marks line h = same_answer test (all_before marks line) (λ e. all_true marks line (h.0 e)) (λ e. h.1 (true_all marks line e))

-- ---- pairs in order

abbrev After : ℕ × ℕ → ℕ × ℕ → Type 0
After p q = (p.0 < q.0) ⊎ ((p.0 ≡ q.0) × (p.1 ≤ q.1))

after_both : (p q r : ℕ × ℕ) → After p q → After q r → After p r
after_both p q r (inl a) (inl b) = inl (omega (arith, a, b))
after_both p q r (inl a) (inr b) = inl (omega (arith, a, b.0))
after_both p q r (inr a) (inl b) = inl (omega (arith, a.0, b))
after_both p q r (inr a) (inr b) = inr (a.0 ∙ b.0, omega (arith, a.1, b.1))

after_of : (p q : ℕ × ℕ) → is_lt (pair_order q p) ≡ false → After p q
after_of p q h =
    elim (nat_cmp q.0 p.0) as (λ o. MatchOrdering o (q.0 < p.0) (q.0 ≡ p.0) (p.0 < q.0) → is_lt (ordering_then o (nat_cmp q.1 p.1)) ≡ false → After p q) [
      | Less ↦ λ m f. absurd (true≢false f)
      | Equal ↦ λ m f. inr (sym m, ge_from_not_lt q.1 p.1 f)
      | Greater ↦ λ m f. inl m
    ] (ranks q.0 p.0) h

abbrev Ascends : List (ℕ × ℕ) → Type 0
Ascends [] = ⊤
Ascends (q ∷ qs) = AllByRecursion (After q) qs × Ascends qs

sorted_tail : (q : ℕ × ℕ) (qs : List (ℕ × ℕ)) → IsSorted pair_order (q ∷ qs) → IsSorted pair_order qs
sorted_tail q qs s = λ k d low within.
    let next : suc k + 1 ≡ suc (k + 1) = omega arith in
    subst (λ n. is_lt (pair_order (slice_index_or (q ∷ qs) n d) (slice_index_or qs k d)) ≡ false) next (s (suc k) d (omega arith) (omega (arith, within)))

further : (p q : ℕ × ℕ) (qs : List (ℕ × ℕ)) → After p q → AllByRecursion (After q) qs → AllByRecursion (After p) qs
further p q [] a all = _
further p q (r ∷ rs) a all = (after_both p q r a all.0, further p q rs a all.1)

ascends : (qs : List (ℕ × ℕ)) → IsSorted pair_order qs → Ascends qs
ascends [] s = _
ascends (q ∷ []) s = (_, _)
ascends (q ∷ (r ∷ rs)) s =
    let rest = ascends (r ∷ rs) (sorted_tail q (r ∷ rs) s) in
    let next = after_of q r (s 0 q (omega arith) (omega arith)) in
    ((next, further q r rs next rest.0), rest)

-- ---- what is kept

contains_first : {X : Type 0} (x : X) (xs : List X) → Contains (x ∷ xs) x
contains_first x xs = (0, omega arith, refl)

contains_later : {X : Type 0} (x y : X) (xs : List X) → Contains xs y → Contains (x ∷ xs) y
contains_later x y xs c = Contains-append_right (x ∷ []) xs y c

contains_none : {X : Type 0} (x : X) → Contains [] x → ⊥
contains_none x c = omega (arith, c.1)

grows : (ms : List Mark) (qs : List (ℕ × ℕ)) (m : Mark) → Contains ms m → Contains (kept ms qs) m
grows ms [] m c = c
grows ms (q ∷ qs) m c =
    elim (all_before ms q.0) as (λ b. Contains (kept (cond b (ms ++ mark_at q ∷ []) ms) qs) m) [
      | true ↦ grows (ms ++ mark_at q ∷ []) qs m (Contains-append_left ms (mark_at q ∷ []) m c)
      | false ↦ grows ms qs m c
    ]

abbrev Stands : List Mark → List (ℕ × ℕ) → Mark → Type 0
Stands ms qs m = Contains ms m ⊎ Contains qs (m.line, m.code)

pushed : (ms : List Mark) (q : ℕ × ℕ) (qs : List (ℕ × ℕ)) (m : Mark) → Contains ms m ⊎ (mark_at q ≡ m) → Stands ms (q ∷ qs) m
pushed ms q qs m (inl c) = inl c
pushed ms q qs m (inr e) = inr (subst (λ p. Contains (q ∷ qs) p) (ap (λ n. (n.line, n.code)) e) (contains_first q qs))

after_push : (ms : List Mark) (q : ℕ × ℕ) (qs : List (ℕ × ℕ)) (m : Mark) → Stands (ms ++ mark_at q ∷ []) qs m → Stands ms (q ∷ qs) m
after_push ms q qs m (inl c) = pushed ms q qs m (Contains-push_cases ms (mark_at q) m c)
after_push ms q qs m (inr c) = inr (contains_later q (m.line, m.code) qs c)

after_skip : (ms : List Mark) (q : ℕ × ℕ) (qs : List (ℕ × ℕ)) (m : Mark) → Stands ms qs m → Stands ms (q ∷ qs) m
after_skip ms q qs m (inl c) = inl c
after_skip ms q qs m (inr c) = inr (contains_later q (m.line, m.code) qs c)

stands_in : (ms : List Mark) (qs : List (ℕ × ℕ)) (m : Mark) → Contains (kept ms qs) m → Stands ms qs m
stands_in ms [] m c = inl c
stands_in ms (q ∷ qs) m c =
    elim (all_before ms q.0) as (λ b. Contains (kept (cond b (ms ++ mark_at q ∷ []) ms) qs) m → Stands ms (q ∷ qs) m) [
      | true ↦ λ d. after_push ms q qs m (stands_in (ms ++ mark_at q ∷ []) qs m d)
      | false ↦ λ d. after_skip ms q qs m (stands_in ms qs m d)
    ] c

abbrev HasPair : List Mark → ℕ × ℕ → Type 0
HasPair ms q = (m : Mark) × Contains ms m × (m.line ≡ q.0) × (m.code ≤ q.1)

abbrev IsBehind : List Mark → ℕ × ℕ → Type 0
IsBehind ms q = (m : Mark) → Contains ms m → After (m.line, m.code) q

behind_push : (ms : List Mark) (q r : ℕ × ℕ) (m : Mark) → IsBehind ms r → After q r → Contains ms m ⊎ (mark_at q ≡ m) → After (m.line, m.code) r
behind_push ms q r m old new (inl c) = old m c
behind_push ms q r m old new (inr e) = subst (λ n. After (n.line, n.code) r) e new

behind_more : (ms : List Mark) (q : ℕ × ℕ) (qs : List (ℕ × ℕ)) → AllByRecursion (IsBehind ms) qs → AllByRecursion (After q) qs → AllByRecursion (IsBehind (ms ++ mark_at q ∷ [])) qs
behind_more ms q [] old new = _
behind_more ms q (r ∷ rs) old new = ((λ m c. behind_push ms q r m old.0 new.0 (Contains-push_cases ms (mark_at q) m c)), behind_more ms q rs old.1 new.1)

on_its_line : (m : Mark) (ms : List Mark) (q : ℕ × ℕ) → nat_lt m.line q.0 ≡ false → After (m.line, m.code) q → HasPair (m ∷ ms) q
on_its_line m ms q e (inl a) = absurd (not_below m.line q.0 e a)
on_its_line m ms q e (inr a) = (m, contains_first m ms, a.0, a.1)

one_later : (m : Mark) (ms : List Mark) (q : ℕ × ℕ) → HasPair ms q → HasPair (m ∷ ms) q
one_later m ms q h = (h.0, contains_later m h.0 ms h.1, h.2, h.3)

there_is : (ms : List Mark) (q : ℕ × ℕ) → all_before ms q.0 ≡ false → IsBehind ms q → HasPair ms q
there_is [] q e b = absurd (true≢false e)
there_is (m ∷ ms) q e b =
    elim (nat_lt m.line q.0) as (λ t. nat_lt m.line q.0 ≡ t → (t && all_before ms q.0) ≡ false → HasPair (m ∷ ms) q) [
      | true ↦ λ f g. one_later m ms q (there_is ms q g (λ n c. b n (contains_later m n ms c)))
      | false ↦ λ f g. on_its_line m ms q f (b m (contains_first m ms))
    ] refl e

raised : (ms : List Mark) (qs : List (ℕ × ℕ)) (q : ℕ × ℕ) → HasPair ms q → HasPair (kept ms qs) q
raised ms qs q h = (h.0, grows ms qs h.0 h.1, h.2, h.3)

covers : (ms : List Mark) (qs : List (ℕ × ℕ)) → Ascends qs → AllByRecursion (IsBehind ms) qs → AllByRecursion (HasPair (kept ms qs)) qs
covers ms [] up behind = _
covers ms (q ∷ qs) up behind =
    elim (all_before ms q.0) as (λ b. all_before ms q.0 ≡ b → AllByRecursion (HasPair (kept (cond b (ms ++ mark_at q ∷ []) ms) qs)) (q ∷ qs)) [
      | true ↦ λ e. (raised (ms ++ mark_at q ∷ []) qs q (mark_at q, Contains-push ms (mark_at q), refl, omega arith), covers (ms ++ mark_at q ∷ []) qs up.1 (behind_more ms q qs behind.1 up.0))
      | false ↦ λ e. (raised ms qs q (there_is ms q e behind.0), covers ms qs up.1 behind.1)
    ] refl

-- ---- faults and their pairs

to_all : {X : Type 0} (P : X → Type 0) (xs : List X) (x : X) → AllByRecursion P xs → Contains xs x → P x
to_all P xs x all c = All-contains P xs x (All-from_recursion P xs all) c

first_is : {X : Type 0} (y x : X) → Contains (y ∷ []) x → y ≡ x
first_is y x c = to_all (λ z. y ≡ z) (y ∷ []) x (refl, _) c

contains_map : {X Y : Type 0} (f : X → Y) (xs : List X) (x : X) → Contains xs x → Contains (map f xs) (f x)
contains_map f [] x c = absurd (contains_none x c)
contains_map f (y ∷ ys) x c = by (Contains-append_cases (y ∷ []) ys x c) (λ d. contains_map f ys x d)
  where
    by : Contains (y ∷ []) x ⊎ Contains ys x → (Contains ys x → Contains (map f ys) (f x)) → Contains (f y ∷ map f ys) (f x)
    by (inl d) later = subst (λ z. Contains (f y ∷ map f ys) (f z)) (first_is y x d) (contains_first (f y) (map f ys))
    by (inr d) later = contains_later (f y) (f x) (map f ys) (later d)

none_behind : (qs : List (ℕ × ℕ)) → AllByRecursion (IsBehind []) qs
none_behind [] = _
none_behind (q ∷ qs) = ((λ m c. absurd (contains_none m c)), none_behind qs)

of_pair : ℕ × ℕ → Fault
of_pair q = record { line = q.0; code = q.1 }

back_again : (fs : List Fault) → map of_pair (map pair_of fs) ≡ fs
unfolding of_pair
back_again [] = refl
back_again (f ∷ fs) = ap (λ l. f ∷ l) (back_again fs)

no_mark : (m : Mark) (qs : List (ℕ × ℕ)) → Stands [] qs m → Contains qs (m.line, m.code)
no_mark m qs (inl c) = absurd (contains_none m c)
no_mark m qs (inr c) = c

pub kept_is_margin : (faults : List Fault) (pairs : List (ℕ × ℕ)) (marks : List Mark) → IsPermutation (map pair_of faults) pairs → IsSorted pair_order pairs → marks ≡ kept [] pairs → IsMargin marks → IsMarginOf faults marks
unfolding of_pair
kept_is_margin faults pairs marks same sorted e margin = record {
  rising = margin.rising;
  stands = λ m c. subst (λ fs. Contains fs (fault_of m)) (back_again faults) (contains_map of_pair (map pair_of faults) (m.line, m.code) (Contains-permutation pairs (map pair_of faults) (m.line, m.code) (IsPermutation-sym (map pair_of faults) pairs same) (no_mark m pairs (stands_in [] pairs m (subst (λ ms. Contains ms m) e c)))));
  least = λ f c. subst (λ ms. HasMark ms f) (sym e) (to_all (HasPair (kept [] pairs)) pairs (pair_of f) (covers [] pairs (ascends pairs sorted) (none_behind pairs)) (Contains-permutation (map pair_of faults) pairs (pair_of f) same (contains_map pair_of faults f c)));
}

-- where there is a fault there is a mark
pub has_marks : (faults : List Fault) (marks : List Mark) → IsMarginOf faults marks → (faults ≡ [] → ⊥) → marks ≡ [] → ⊥
has_marks [] marks margin some none = some refl
has_marks (f ∷ faults) marks margin some none =
    let h = margin.least f (contains_first f faults) in
    contains_none h.0 (subst (λ ms. Contains ms h.0) none h.1)
