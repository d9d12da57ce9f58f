use Rattle.std.proofs.Common.{◌≡◌, ◌+◌, ◌++◌, ◌≤◌, length, map, drop}
use Rattle.kumir_tree.specs.Seen.{trees}
use Rattle.kumir_tree.specs.Parts.{formal_of}
use Rattle.kumir_compiler.specs.Code.{trees_code, arguments_code}
use Rattle.kumir_compiler.specs.CallsSeen.{keeps_in}
use Rattle.kumir_compiler.specs.PendingCode.{code_of}
use Rattle.kumir_compiler.specs.SitesSeen.{site_of}
use Rattle.kumir_compiler.proofs.expressions.+emit.Given as goal

abbrev pub invariant-emit_trees-loop-at : goal.invariant-emit_trees-loop-at
invariant-emit_trees-loop-at l = (l.at ≤ length l.all) × (code_of l.out ≡ trees_code (trees (drop l.at l.all)) (site_of l.site) l.hidden ++ code_of l.fn.out)

abbrev pub decreases-emit_trees-loop-at : goal.decreases-emit_trees-loop-at
decreases-emit_trees-loop-at l = l.at

abbrev pub invariant-emit_arguments-loop-at : goal.invariant-emit_arguments-loop-at
invariant-emit_arguments-loop-at l = record {
  params : l.at ≤ length l.params;
  all : l.at ≤ length l.all;
  kept : l.kept + keeps_in (trees (drop l.at l.all)) (map formal_of (drop l.at l.params)) ≡ l.hidden + keeps_in (trees l.all) (map formal_of l.params);
  code : code_of l.out ≡ arguments_code (trees (drop l.at l.all)) (map formal_of (drop l.at l.params)) (site_of l.site) l.kept ++ code_of l.fn.out;
}

abbrev pub decreases-emit_arguments-loop-at : goal.decreases-emit_arguments-loop-at
decreases-emit_arguments-loop-at l = l.at
