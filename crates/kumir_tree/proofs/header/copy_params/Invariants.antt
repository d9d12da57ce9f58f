use Rattle.std.proofs.Common.{◌≡◌, take}
use Rattle.kumir_tree.proofs.header.copy_params.Given as goal

abbrev pub invariant-loop-param : goal.invariant-loop-param
invariant-loop-param l = l.out ≡ take l.param-index l.all
