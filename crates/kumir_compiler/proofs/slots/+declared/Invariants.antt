use Rattle.std.proofs.Common.{◌≡◌, ◌++◌, drop}
use Rattle.kumir_tree.specs.Blocks.{arms_of, block_of}
use Rattle.kumir_meaning.specs.Program.{arm_names, block_names}
use Rattle.kumir_compiler.specs.UnitCode.{arm_shapes, block_shapes}
use Rattle.kumir_compiler.proofs.slots.+declared.Given as goal

abbrev pub invariant-add_block-loop-statement : goal.invariant-add_block-loop-statement
invariant-add_block-loop-statement l =
    (l.slots.names ++ block_names (block_of (drop l.statement-index l.block)) ≡ l.fn.slots.names ++ block_names (block_of l.block))
    × (l.slots.shapes ++ block_shapes (block_of (drop l.statement-index l.block)) ≡ l.fn.slots.shapes ++ block_shapes (block_of l.block))

abbrev pub invariant-add_cases-loop-case : goal.invariant-add_cases-loop-case
invariant-add_cases-loop-case l =
    (l.slots.names ++ arm_names (arms_of (drop l.case-index l.cases)) ≡ l.fn.slots.names ++ arm_names (arms_of l.cases))
    × (l.slots.shapes ++ arm_shapes (arms_of (drop l.case-index l.cases)) ≡ l.fn.slots.shapes ++ arm_shapes (arms_of l.cases))
