use Rattle.std.proofs.Common.{◌≡◌, ◌++◌, drop}
use Rattle.kumir_tree.specs.Parts.{places_of}
use Rattle.type_check.specs.Parts.{places_names}
use Rattle.type_check.proofs.uses.add_targets.Given as goal

abbrev pub invariant-loop-target : goal.invariant-loop-target
invariant-loop-target l = l.out ++ places_names (places_of (drop l.target-index l.targets)) ≡ l.fn.out ++ places_names (places_of l.targets)
