-- Loops: the numbers of their turns, and one turn.
use Rattle.std.specs.Prelude.{ℕ, zero, suc, ℤ, pos, negsuc, ◌+ℤ◌, ◌≤ℤ◌, ◌<ℤ◌, Option, Some, None, if◌then◌else◌}
use Rattle.kumir_meaning.specs.Loops.{past}
use Rattle.stack_code.specs.CodeState.{Slot, Plain, Left, Numbers, Slots, with_slot}
use Rattle.stack_code.specs.Instructions.{set_variable}

-- the number of the next turn is in the range of `цел`, or one step past it
pub record IsNear (next step : ℤ) : Type 0 where
  pub up : pos 0 ≤ℤ step → (negsuc 2147483647 ≤ℤ next) × (next ≤ℤ pos 4294967296)
  pub down : step <ℤ pos 0 → (negsuc 4294967295 ≤ℤ next) × (next ≤ℤ pos 2147483647)

-- one turn of the loop of slot x, with the variable v: the slots then, if a turn is left
abbrev pub turned : Slot → ℕ → Option ℕ → Slots → Option Slots
turned (Plain c) x v slots = None
turned (Left zero) x v slots = None
turned (Left (suc n)) x v slots = Some (with_slot slots x (Left n))
turned (Numbers z last step) x v slots =
    if past z last step then None else Some (set_variable v z (with_slot slots x (Numbers (z +ℤ step) last step)))
