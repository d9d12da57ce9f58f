-- The slots of a unit hold what its variables hold.
use Rattle.std.proofs.Common.{◌≡◌, ◌≢◌, ℕ, ◌+◌, ◌<◌, ◌≤◌, Bool, true, false, cond, List, length, refl, ap, ◌∙◌, arith, nat_eq}
use Rattle.std.proofs.lemmas.Bool.Decides.{nat_tests}
use Rattle.kumir_meaning.specs.Store.{CellName, same_cell_name, Cell, Store, with_cell}
use Rattle.stack_code.specs.CodeState.{Slot, Slots, with_slot, cell_in}
use Rattle.kumir_compiler.specs.Code.{position}
use Rattle.kumir_compiler.proofs.Variables.{is_among, position_within, position_eq}

-- the variables' cells stand in their slots, and d hidden slots hold what they held
pub record Same (names : List CellName) (d : ℕ) (h : Slots) (s : Store) (slots : Slots) : Type 0 where
  pub vars : (x : CellName) → is_among names x ≡ true → cell_in (slots (position names x)) ≡ s.cells x
  pub kept : (i : ℕ) → i < d → slots (length names + i) ≡ h i

eq_false : (x y : ℕ) → x ≢ y → nat_eq x y ≡ false
eq_false x y h = grind (arith, nat_tests)

eq_true : (x : ℕ) → nat_eq x x ≡ true
eq_true x = grind (arith, nat_tests)

pub with_other : (f : Slots) (x y : ℕ) (c : Slot) → y ≢ x → with_slot f x c y ≡ f y
with_other f x y c h = ap (λ b. cond b c (f y)) (eq_false y x h)

pub with_same : (f : Slots) (x : ℕ) (c : Slot) → with_slot f x c x ≡ c
with_same f x c = ap (λ b. cond b c (f x)) (eq_true x)

cell_cond : (b : Bool) (c : Slot) (e : Slot) → cell_in (cond b c e) ≡ cond b (cell_in c) (cell_in e)
cell_cond true c e = refl
cell_cond false c e = refl

cond_both : (b : Bool) (x y z w : Cell) → x ≡ y → z ≡ w → cond b x z ≡ cond b y w
cond_both b x y z w e f = ap (λ v. cond b v z) e ∙ ap (λ v. cond b y v) f

pub stored : (names : List CellName) (d : ℕ) (h : Slots) (s : Store) (slots : Slots) (x : CellName) (c : Cell) (c1 : Slot) → is_among names x ≡ true → cell_in c1 ≡ c → Same names d h s slots → Same names d h (with_cell s x c) (with_slot slots (position names x) c1)
stored names d h s slots x c c1 known e same = record {
  vars = λ y is. cell_cond (nat_eq (position names y) (position names x)) c1 (slots (position names y))
      ∙ ap (λ b. cond b (cell_in c1) (cell_in (slots (position names y)))) (position_eq names x y is)
      ∙ cond_both (same_cell_name x y) (cell_in c1) c (cell_in (slots (position names y))) (s.cells y) e (same.vars y is);
  kept = λ i below. with_other slots (position names x) (length names + i) c1 (λ e. let w = position_within names x known in absurd (omega arith)) ∙ same.kept i below;
}

-- how many elements are in use is no matter of the slots
pub counted : (names : List CellName) (d : ℕ) (h : Slots) (s : Store) (slots : Slots) (used : ℕ) → Same names d h s slots → Same names d h (record { cells = s.cells; used = used }) slots
counted names d h s slots used same = record { vars = same.vars; kept = same.kept }

pub grown : (names : List CellName) (d : ℕ) (h : Slots) (s : Store) (slots : Slots) (c : Slot) → Same names d h s slots → Same names (d + 1) (with_slot h d c) s (with_slot slots (length names + d) c)
grown names d h s slots c same = record {
  vars = λ y is. ap cell_in (with_other slots (length names + d) (position names y) c (λ e. let w = position_within names y is in absurd (omega arith))) ∙ same.vars y is;
  kept = λ i below. ap (λ b. cond b c (slots (length names + i))) (shifted i) ∙ last i below (nat_eq i d) refl;
}
  where
    shifted : (i : ℕ) → nat_eq (length names + i) (length names + d) ≡ nat_eq i d
    shifted i = grind (arith, nat_tests)

    last : (i : ℕ) → i < d + 1 → (b : Bool) → nat_eq i d ≡ b → cond b c (slots (length names + i)) ≡ cond b c (h i)
    last i below true e = refl
    last i below false e = let ne : i < d = grind (arith, nat_tests) in same.kept i ne

pub shrunk : (names : List CellName) (d : ℕ) (h : Slots) (s : Store) (slots : Slots) (c : Slot) → Same names (d + 1) (with_slot h d c) s slots → Same names d h s slots
shrunk names d h s slots c same = record {
  vars = same.vars;
  kept = λ i below. let within : i < d + 1 = omega arith in same.kept i within ∙ with_other h d i c (λ e. absurd (omega arith));
}

-- fewer hidden slots are looked at
pub narrowed : (names : List CellName) (d D : ℕ) (h h1 : Slots) (s : Store) (slots : Slots) → d ≤ D → ((i : ℕ) → i < d → h1 i ≡ h i) → Same names D h1 s slots → Same names d h s slots
narrowed names d D h h1 s slots le agree same = record { vars = same.vars; kept = λ i below. same.kept i (omega arith) ∙ agree i below }

pub grown_agree : (h : Slots) (d i : ℕ) (c : Slot) → i < d → with_slot h d c i ≡ h i
grown_agree h d i c below = with_other h d i c (λ e. absurd (omega arith))
