use Rattle.std.proofs.Common.{◌≡◌, length}
use Rattle.kumir_tree.specs.Seen.{tree}
use Rattle.expr_forms.specs.Reading.{wrapped}
use Rattle.expr_forms.proofs.pending.wrap.Given as goal

abbrev pub invariant-loop-last : goal.invariant-loop-last
invariant-loop-last l = wrapped l.pending (tree l.operand) ≡ wrapped l.fn.pending (tree l.fn.operand)

abbrev pub decreases-loop-last : goal.decreases-loop-last
decreases-loop-last l = length l.pending
