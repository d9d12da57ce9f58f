use Rattle.std.proofs.Common.{◌≡◌, take}
use Rattle.kumir_tree.proofs.expr.copy_bounds.Given as goal

abbrev pub invariant-loop-b : goal.invariant-loop-b
invariant-loop-b l = l.out ≡ take l.b-index l.all
