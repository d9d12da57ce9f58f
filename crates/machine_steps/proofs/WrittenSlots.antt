-- A slot that is written.
use Rattle.std.proofs.Common.{◌≡◌, ◌≢◌, ℕ, ◌<◌, true, false, List, length, set, get_or, Option, Some, None, refl, sym, ap, ◌∙◌, arith}
use Rattle.std.specs.Prelude.{slice_get, nat_eq, if◌then◌else◌, unwrap_or}
use Rattle.std.proofs.lemmas.Bool.Decides.{nat_tests}
use Rattle.std.proofs.lemmas.List.{get_or-set_same, get_or-set_other}
use Rattle.std.proofs.lemmas.Option.{unwrap_or-slice_get, slice_get-get_or}
use Rattle.stack_code.specs.CodeState.{Slot, Slots, with_slot, no_slots}
use Rattle.machine_steps.specs.declared.held.Cell.TheVariants.{Empty}
use Rattle.machine_steps.specs.declared.held.Held.{Held}
use Rattle.machine_steps.specs.declared.held.Held.TheVariants as held
use Rattle.machine_steps.specs.States.{slot_of, slot_or, slots_of, AllEmpty}

abbrev nothing : Held
nothing = held.Plain Empty

of_some : (o : Option Held) → slot_or o ≡ slot_of (unwrap_or o nothing)
of_some None = refl
of_some (Some h) = refl

pub as_get : (xs : List Held) (y : ℕ) → slots_of xs y ≡ slot_of (get_or xs y nothing)
as_get xs y = of_some (slice_get xs y) ∙ ap slot_of (unwrap_or-slice_get xs y nothing)

eq_true : (x : ℕ) → nat_eq x x ≡ true
eq_true x = grind (arith, nat_tests)

at_each : (xs : List Held) (i : ℕ) (h : Held) → i < length xs → (y : ℕ) → slots_of (set xs i h) y ≡ with_slot (slots_of xs) i (slot_of h) y
at_each xs i h w y =
    as_get (set xs i h) y ∙ elim (nat_eq y i) as (λ b. nat_eq y i ≡ b → slot_of (get_or (set xs i h) y nothing) ≡ (if b then slot_of h else slots_of xs y)) [
      | true ↦ λ e. let q : i ≡ y = grind (arith, nat_tests, e) in ap slot_of (ap (λ z. get_or (set xs i h) z nothing) (sym q) ∙ get_or-set_same xs i h nothing w)
      | false ↦ λ e. ap slot_of (get_or-set_other xs i y h nothing (λ p. let t : nat_eq y i ≡ true = ap (λ z. nat_eq y z) (sym p) ∙ eq_true y in absurd (cc))) ∙ sym (as_get xs y)
    ] refl

pub put_is : (xs : List Held) (i : ℕ) (h : Held) → i < length xs → slots_of (set xs i h) ≡ with_slot (slots_of xs) i (slot_of h)
put_is xs i h w = λ k y. at_each xs i h w y k

pub nothing_is : (count : ℕ) (xs : List Held) → AllEmpty count xs → slots_of xs ≡ no_slots
nothing_is count xs e = λ k y. (as_get xs y ∙ ap slot_of (e.1 y)) k

-- what a slot holds that is there
pub held_there : (xs : List Held) (x : ℕ) (h : Held) → x < length xs → h ≡ get_or xs x h → slots_of xs x ≡ slot_of h
held_there xs x h w e = ap slot_or (slice_get-get_or xs x h w) ∙ ap slot_of (sym e)

-- the later of two changes of one slot stands
pub changed_twice : (s : Slots) (x : ℕ) (a b : Slot) → with_slot (with_slot s x a) x b ≡ with_slot s x b
changed_twice s x a b = λ k y. at y k
  where
    at : (y : ℕ) → with_slot (with_slot s x a) x b y ≡ with_slot s x b y
    at y = elim (nat_eq y x) as (λ t. (if t then b else (if t then a else s y)) ≡ (if t then b else s y)) [ true ↦ refl | false ↦ refl ]

-- other slots stay as they are
pub elsewhere : (s : Slots) (x y : ℕ) (c : Slot) → y ≢ x → with_slot s x c y ≡ s y
elsewhere s x y c other = elim (nat_eq y x) as (λ t. nat_eq y x ≡ t → (if t then c else s y) ≡ s y) [
  | true ↦ λ e. absurd (other (grind (arith, nat_tests, e)))
  | false ↦ λ e. refl
] refl
