use Rattle.std.proofs.Common.{◌≡◌, ◌-◌, ◌++◌, ◌≤◌, List, length}
use Rattle.kumir_tree.specs.Blocks.{block_of, arms_of}
use Rattle.kumir_meaning.specs.Program.{block_names, arm_names}
use Rattle.kumir_compiler.specs.Sites as code
use Rattle.kumir_compiler.specs.Sites.{Code}
use Rattle.kumir_compiler.specs.PendingCode.{code_of}
use Rattle.kumir_compiler.specs.SitesSeen.{site_of, EndsWith}
use Rattle.kumir_compiler.proofs.BlocksInFront.{SoFar}
use Rattle.kumir_compiler.proofs.ChoicesInFront as choice
use Rattle.kumir_compiler.proofs.statements.+emit.Given as goal

abbrev pub invariant-emit_block-loop-at : goal.invariant-emit_block-loop-at
invariant-emit_block-loop-at l = record {
  within : l.at ≤ length l.block;
  puts : l.exit ≤ length l.fn.out → EndsWith l.site (block_names (block_of l.block)) → SoFar l.site l.block l.at l.locals l.hidden l.exit l.fn.out l.out;
}

abbrev pub decreases-emit_block-loop-at : goal.decreases-emit_block-loop-at
decreases-emit_block-loop-at l = l.at

abbrev pub invariant-emit_cases-loop-at : goal.invariant-emit_cases-loop-at
invariant-emit_cases-loop-at l = record {
  within : l.at ≤ length l.cases;
  puts :
      (last : code.Site → Code) (base : Code) → l.exit ≤ l.end → EndsWith l.site (arm_names (arms_of l.cases)) → code_of l.fn.out ≡ last (site_of l.site) ++ base → length base ≡ l.end
      → choice.SoFar l.site l.cases l.at l.locals l.hidden (l.end - l.exit) last base l.out;
}

abbrev pub decreases-emit_cases-loop-at : goal.decreases-emit_cases-loop-at
decreases-emit_cases-loop-at l = l.at
