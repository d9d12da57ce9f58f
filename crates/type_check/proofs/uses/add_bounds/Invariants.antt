use Rattle.std.proofs.Common.{◌≡◌, ◌++◌, drop}
use Rattle.kumir_tree.specs.Parts.{limits_of}
use Rattle.type_check.specs.Parts.{limits_names}
use Rattle.type_check.proofs.uses.add_bounds.Given as goal

abbrev pub invariant-loop-b : goal.invariant-loop-b
invariant-loop-b l = l.out ++ limits_names (limits_of (drop l.b-index l.bounds)) ≡ l.fn.out ++ limits_names (limits_of l.bounds)
