use Rattle.std.proofs.Common.{◌≡◌, drop, fold}
use Rattle.kumir_tree.specs.Blocks.{block_of, arms_of}
use Rattle.type_check.specs.Parts.{block_pieces, arms_pieces}
use Rattle.type_check.specs.Seen.{checking}
use Rattle.type_check.proofs.check.+walk.Given as goal

abbrev pub invariant-check_block-loop-statement : goal.invariant-check_block-loop-statement
invariant-check_block-loop-statement l = fold (checking l.rules) l.found (block_pieces (block_of (drop l.statement-index l.block))) ≡ fold (checking l.rules) l.fn.found (block_pieces (block_of l.block))

abbrev pub invariant-check_cases-loop-case : goal.invariant-check_cases-loop-case
invariant-check_cases-loop-case l = fold (checking l.rules) l.found (arms_pieces (arms_of (drop l.case-index l.cases))) ≡ fold (checking l.rules) l.fn.found (arms_pieces (arms_of l.cases))
