-- Variables and their positions.
use Rattle.std.proofs.Common.{◌≡◌, ℕ, suc, ◌<◌, Bool, true, false, cond, List, [], ◌∷◌, ◌++◌, length, refl, sym, ap, ◌∙◌, arith, nat_eq, true≢false}
use Rattle.std.specs.Prelude.{if◌then◌else◌}
use Rattle.std.proofs.lemmas.Bool.Decides.{nat_tests}
use Rattle.std.proofs.lemmas.Slice.Eq.{bytes_eq-Decides}
use Rattle.kumir_meaning.specs.Store.{CellName, TheAnswer, Local, same_cell_name}
use Rattle.kumir_compiler.specs.Code.{position}

abbrev pub is_among : List CellName → CellName → Bool
is_among [] x = false
is_among (y ∷ variables) x = if same_cell_name y x then true else is_among variables x

pub same_itself : (x : CellName) → same_cell_name x x ≡ true
same_itself TheAnswer = refl
same_itself (Local x) = (bytes_eq-Decides x x).1 refl

same_is : (x y : CellName) → same_cell_name x y ≡ true → x ≡ y
same_is TheAnswer TheAnswer e = refl
same_is TheAnswer (Local y) e = absurd (true≢false (sym e))
same_is (Local x) TheAnswer e = absurd (true≢false (sym e))
same_is (Local x) (Local y) e = ap Local ((bytes_eq-Decides x y).0 e)

-- what differs from z, differs from what is z
differ : (z x y : CellName) → same_cell_name z y ≡ true → same_cell_name z x ≡ false → same_cell_name x y ≡ false
differ z x y e f = go (same_cell_name x y) refl
  where
    go : (b : Bool) → same_cell_name x y ≡ b → same_cell_name x y ≡ false
    go false is = is
    go true is = absurd (true≢false (sym (ap (λ w. same_cell_name z w) (same_is x y is) ∙ e) ∙ f))

differ_too : (z x y : CellName) → same_cell_name z y ≡ false → same_cell_name z x ≡ true → same_cell_name x y ≡ false
differ_too z x y e f = ap (λ w. same_cell_name w y) (sym (same_is z x f)) ∙ e

agree : (z x y : CellName) → same_cell_name z y ≡ true → same_cell_name z x ≡ true → same_cell_name x y ≡ true
agree z x y e f = ap (λ w. same_cell_name w y) (sym (same_is z x f)) ∙ e

pub position_within : (names : List CellName) (x : CellName) → is_among names x ≡ true → position names x < length names
position_within [] x h = absurd (true≢false (sym h))
position_within (y ∷ names) x h = go (position_within names x) (same_cell_name y x) h
  where
    go : (is_among names x ≡ true → position names x < length names) → (b : Bool) → cond b true (is_among names x) ≡ true → cond b 0 (suc (position names x)) < suc (length names)
    go more true h = omega arith
    go more false h = let i = more h in omega arith

suc_eq : (a b : ℕ) → nat_eq (suc a) (suc b) ≡ nat_eq a b
suc_eq a b = grind (arith, nat_tests)

suc_zero : (a : ℕ) → nat_eq (suc a) 0 ≡ false
suc_zero a = grind (arith, nat_tests)

zero_suc : (a : ℕ) → nat_eq 0 (suc a) ≡ false
zero_suc a = grind (arith, nat_tests)

pub position_eq : (names : List CellName) (x y : CellName) → is_among names y ≡ true → nat_eq (position names y) (position names x) ≡ same_cell_name x y
position_eq [] x y h = absurd (true≢false (sym h))
position_eq (z ∷ names) x y h = go (position_eq names x y) (same_cell_name z y) (same_cell_name z x) refl refl h
  where
    go : (is_among names y ≡ true → nat_eq (position names y) (position names x) ≡ same_cell_name x y) → (a b : Bool) → same_cell_name z y ≡ a → same_cell_name z x ≡ b → cond a true (is_among names y) ≡ true → nat_eq (cond a 0 (suc (position names y))) (cond b 0 (suc (position names x))) ≡ same_cell_name x y
    go more true true e f h = sym (agree z x y e f)
    go more true false e f h = zero_suc (position names x) ∙ sym (differ z x y e f)
    go more false true e f h = suc_zero (position names y) ∙ sym (differ_too z x y e f)
    go more false false e f h = suc_eq (position names y) (position names x) ∙ more h

-- ---- names among others
pub among_behind : (before names : List CellName) (x : CellName) → is_among names x ≡ true → is_among (before ++ names) x ≡ true
among_behind [] names x h = h
among_behind (y ∷ before) names x h = go (same_cell_name y x) (among_behind before names x h)
  where
    go : (b : Bool) → is_among (before ++ names) x ≡ true → cond b true (is_among (before ++ names) x) ≡ true
    go true more = refl
    go false more = more

pub among_before : (names more : List CellName) (x : CellName) → is_among names x ≡ true → is_among (names ++ more) x ≡ true
among_before [] more x h = absurd (true≢false (sym h))
among_before (y ∷ names) more x h = go (same_cell_name y x) (among_before names more x) h
  where
    go : (b : Bool) → (is_among names x ≡ true → is_among (names ++ more) x ≡ true) → cond b true (is_among names x) ≡ true → cond b true (is_among (names ++ more) x) ≡ true
    go true later h = refl
    go false later h = later h
