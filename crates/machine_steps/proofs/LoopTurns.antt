-- One turn of a loop.
use Rattle.std.proofs.Common.{◌≡◌, ◌≢◌, ℕ, zero, suc, ◌+◌, ◌-◌, Bool, true, false, Option, Some, None, refl, sym, ap, ◌∙◌, subst, arith}
use Rattle.std.specs.Prelude.{ℤ, pos, negsuc, ◌+ℤ◌, ◌≤ℤ◌, int_lt, cond, if◌then◌else◌}
use Rattle.kumir_meaning.specs.Loops.{past}
use Rattle.stack_code.specs.CodeState.{Slot, Plain, Left, Numbers, Slots, State, cell_in, with_slot, goes_to}
use Rattle.stack_code.specs.Instructions.{set_variable, next_turn}
use Rattle.machine_steps.specs.Loops.{IsNear, turned}

pub turn_none : (s : Slot) (x : ℕ) (v : Option ℕ) (slots : Slots) → s ≡ Plain (cell_in s) → turned s x v slots ≡ None
turn_none s x v slots e = ap (λ t. turned t x v slots) e

pub turn_zero : (s : Slot) (x : ℕ) (v : Option ℕ) (slots : Slots) (n : ℕ) → s ≡ Left n → n ≡ 0 → turned s x v slots ≡ None
turn_zero s x v slots n e z = ap (λ t. turned t x v slots) (e ∙ ap Left z)

pub turn_left : (s : Slot) (x : ℕ) (v : Option ℕ) (old new : Slots) (n : ℕ) → s ≡ Left n → n ≢ 0 → new ≡ with_slot old x (Left (n - 1)) → turned s x v old ≡ Some new
turn_left s x v old new zero e z h = absurd (z refl)
turn_left s x v old new (suc n) e z h = ap (λ t. turned t x v old) e ∙ ap Some (sym (h ∙ ap (λ k. with_slot old x (Left k)) (one_less n)))
  where
    one_less : (n : ℕ) → suc n - 1 ≡ n
    one_less n = omega arith

of_past : (b : Bool) (new : Slots) → b ≡ true → (if b then None else Some new) ≡ None
of_past true new e = refl
of_past false new e = absurd (cc)

of_number : (b : Bool) (new : Slots) → b ≡ false → (if b then None else Some new) ≡ Some new
of_number true new e = absurd (cc)
of_number false new e = refl

pub turn_past : (s : Slot) (x : ℕ) (v : Option ℕ) (slots : Slots) (z last step : ℤ) → s ≡ Numbers z last step → past z last step ≡ true → turned s x v slots ≡ None
turn_past s x v slots z last step e p =
    ap (λ t. turned t x v slots) e ∙ of_past (past z last step) (set_variable v z (with_slot slots x (Numbers (z +ℤ step) last step))) p

pub turn_number : (s : Slot) (x : ℕ) (v : Option ℕ) (old new : Slots) (z last step : ℤ) → s ≡ Numbers z last step → past z last step ≡ false
    → new ≡ set_variable v z (with_slot old x (Numbers (z +ℤ step) last step)) → turned s x v old ≡ Some new
turn_number s x v old new z last step e p h =
    ap (λ t. turned t x v old) e ∙ of_number (past z last step) (set_variable v z (with_slot old x (Numbers (z +ℤ step) last step))) p ∙ ap Some (sym h)

-- the state after a turn, or behind the loop
state_after : State → ℕ → Option Slots → State
state_after now a None = goes_to now a now.stack
state_after now a (Some new) = record now { pc = now.pc + 1; slots = new }

state_after_is : (s : Slot) (x : ℕ) (v : Option ℕ) (a : ℕ) (now : State) → state_after now a (turned s x v now.slots) ≡ next_turn s x v a now
unfolding state_after
state_after_is (Plain c) x v a now = refl
state_after_is (Left zero) x v a now = refl
state_after_is (Left (suc n)) x v a now = refl
state_after_is (Numbers z last step) x v a now = elim (past z last step) as (λ b. state_after now a (if b then None else Some (set_variable v z (with_slot now.slots x (Numbers (z +ℤ step) last step)))) ≡ (if b then goes_to now a now.stack else record now { pc = now.pc + 1; slots = set_variable v z (with_slot now.slots x (Numbers (z +ℤ step) last step)) })) [
  | true ↦ refl
  | false ↦ refl
]

pub goes_on : (s : Slot) (x : ℕ) (v : Option ℕ) (a : ℕ) (now : State) (new : Slots) → turned s x v now.slots ≡ Some new → record now { pc = now.pc + 1; slots = new } ≡ next_turn s x v a now
unfolding state_after
goes_on s x v a now new e = ap (state_after now a) (sym e) ∙ state_after_is s x v a now

pub goes_away : (s : Slot) (x : ℕ) (v : Option ℕ) (a : ℕ) (now : State) (new : Slots) → turned s x v now.slots ≡ None → new ≡ now.slots → record now { pc = a; slots = new } ≡ next_turn s x v a now
unfolding state_after
goes_away s x v a now new e h = ap (λ l. record now { pc = a; slots = l }) h ∙ ap (state_after now a) (sym e) ∙ state_after_is s x v a now

-- one step further, where the number is not past the last one
pub near_next : (z last step next : ℤ) → IsNear z step → past z last step ≡ false → negsuc 2147483647 ≤ℤ last → last ≤ℤ pos 2147483647 → negsuc 2147483647 ≤ℤ step → step ≤ℤ pos 2147483647 → next ≡ z +ℤ step → IsNear next step
near_next z last step next near p a b c d sum = subst (λ n. IsNear n step) (sym sum) (elim (int_lt step (pos 0)) as (λ t. int_lt step (pos 0) ≡ t → cond t (int_lt z last) (int_lt last z) ≡ false → IsNear (z +ℤ step) step) [
  | true ↦ λ e q. record {
    up = λ h. absurd (let wrong : ⊥ = grind (arith, e, h) in wrong);
    down = λ h. let w = near.down h in grind (arith, q, w, a, b, c, d);
  }
  | false ↦ λ e q. record {
    up = λ h. let w = near.up h in grind (arith, q, w, a, b, c, d);
    down = λ h. absurd (let wrong : ⊥ = grind (arith, e, h) in wrong);
  }
] refl p)
