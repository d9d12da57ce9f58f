use Rattle.std.proofs.Common.{◌≡◌, ◌<◌, ◌-◌, ℕ, length, slice_get, Some}
use Rattle.stack_code.specs.declared.unit.CodeUnit.{CodeUnit}
use Rattle.stack_code.specs.Validity.{IsUnit}
use Rattle.stack_code.proofs.code.are_units.Given as goal

abbrev pub invariant-loop-at : goal.invariant-loop-at
invariant-loop-at l = (k : ℕ) (u : CodeUnit) → k < l.at → slice_get l.fn.units k ≡ Some u → IsUnit l.fn.units u

abbrev pub decreases-loop-at : goal.decreases-loop-at
decreases-loop-at l = length l.fn.units - l.at
