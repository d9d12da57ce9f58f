use Rattle.std.proofs.Common.{◌≡◌, ◌++◌, drop}
use Rattle.kumir_tree.specs.Seen.{trees}
use Rattle.type_check.specs.Parts.{all_names_in}
use Rattle.type_check.proofs.uses.+names.Given as goal

abbrev pub invariant-add_all_names-loop-e : goal.invariant-add_all_names-loop-e
invariant-add_all_names-loop-e l = l.out ++ all_names_in (trees (drop l.e-index l.all)) ≡ l.fn.out ++ all_names_in (trees l.all)
