use Rattle.std.proofs.Common.{◌≡◌, ◌++◌, drop, map}
use Rattle.kumir_tree.specs.Parts.{formal_of}
use Rattle.type_check.specs.Parts.{formals_names}
use Rattle.type_check.proofs.uses.add_params.Given as goal

abbrev pub invariant-loop-param : goal.invariant-loop-param
invariant-loop-param l = l.out ++ formals_names (map formal_of (drop l.param-index l.params)) ≡ l.fn.out ++ formals_names (map formal_of l.params)
