use Rattle.std.proofs.Common.{◌≡◌, ◌+◌, drop, map}
use Rattle.kumir_tree.specs.Seen.{trees}
use Rattle.kumir_tree.specs.Parts.{formal_of}
use Rattle.kumir_compiler.specs.CallsSeen.{keeps_in}
use Rattle.kumir_compiler.proofs.kept.all_kept.Given as goal

abbrev pub invariant-loop-at : goal.invariant-loop-at
invariant-loop-at l = l.kept + keeps_in (trees (drop l.at l.all)) (map formal_of (drop l.at l.params)) ≡ l.hidden + keeps_in (trees l.all) (map formal_of l.params)
