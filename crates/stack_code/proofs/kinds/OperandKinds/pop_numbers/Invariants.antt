use Rattle.std.proofs.Common.{◌≡◌}
use Rattle.stack_code.specs.Operands.{pop_numbers}
use Rattle.stack_code.proofs.kinds.OperandKinds.pop_numbers.Given as goal

abbrev pub invariant-loop-left : goal.invariant-loop-left
invariant-loop-left l = pop_numbers l.fn.count l.fn.self ≡ pop_numbers l.left l.self

abbrev pub decreases-loop-left : goal.decreases-loop-left
decreases-loop-left l = l.left
