use Rattle.std.proofs.Common.{◌≡◌, ℕ, [], length, Option, Some}
use Rattle.stack_code.specs.Operands.{Kinds}
use Rattle.stack_code.specs.Validity.{HasKinds}
use Rattle.stack_code.specs.Checking.{kinds_at, Within, unknown}
use Rattle.stack_code.proofs.flow.do_operands_fit.Given as goal

abbrev pub invariant-loop-found : goal.invariant-loop-found
invariant-loop-found l =
    (length l.found.items ≡ length l.fn.unit.body) × (kinds_at l.found.items 0 ≡ Some [])
    × ((kinds : ℕ → Option Kinds) → HasKinds l.fn.units l.fn.unit kinds → Within l.found.items kinds)

abbrev pub decreases-loop-found : goal.decreases-loop-found
decreases-loop-found l = unknown l.found.items
