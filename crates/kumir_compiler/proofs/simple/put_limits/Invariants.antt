use Rattle.std.proofs.Common.{◌≡◌, ◌++◌, ◌≤◌, length, map, drop}
use Rattle.kumir_tree.specs.Parts.{limits_of}
use Rattle.kumir_compiler.specs.ExpressionCode.{limits_code}
use Rattle.kumir_compiler.specs.PendingCode.{code_of}
use Rattle.kumir_compiler.specs.SitesSeen.{site_of}
use Rattle.kumir_compiler.proofs.simple.put_limits.Given as goal

abbrev pub invariant-loop-at : goal.invariant-loop-at
invariant-loop-at l = record {
  within : l.at ≤ length l.bounds;
  code : code_of l.out ≡ limits_code (limits_of (drop l.at l.bounds)) (site_of l.site) l.hidden ++ code_of l.fn.out;
}

abbrev pub decreases-loop-at : goal.decreases-loop-at
decreases-loop-at l = l.at
