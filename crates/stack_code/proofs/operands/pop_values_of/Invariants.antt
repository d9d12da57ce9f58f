use Rattle.std.proofs.Common.{◌≡◌, ◌≤◌, Some, length}
use Rattle.std.specs.Prelude.{drop}
use Rattle.stack_code.specs.Operands.{pop_values}
use Rattle.stack_code.proofs.operands.pop_values_of.Given as goal

abbrev pub invariant-loop-left : goal.invariant-loop-left
invariant-loop-left l =
    (l.left ≤ length l.fn.params) × (l.left ≤ length l.fn.places)
    × (pop_values l.fn.callee (drop l.left l.fn.params) (drop l.left l.fn.places) l.fn.kinds ≡ Some l.kinds)

abbrev pub decreases-loop-left : goal.decreases-loop-left
decreases-loop-left l = l.left
