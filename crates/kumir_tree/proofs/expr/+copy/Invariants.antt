use Rattle.std.proofs.Common.{◌≡◌, take}
use Rattle.kumir_tree.proofs.expr.+copy.Given as goal

abbrev pub invariant-copy_exprs-loop-e : goal.invariant-copy_exprs-loop-e
invariant-copy_exprs-loop-e l = l.out ≡ take l.e-index l.all
