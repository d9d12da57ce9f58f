use Rattle.std.proofs.Common.{arith, ◌+◌}
use Rattle.line_pieces.proofs.Firsts.{none_more}
use Rattle.line_pieces.proofs.spans.span_end.Goals as goal

pub loop-at-preserved : goal.loop-at-preserved
loop-at-preserved c = none_more c.args.lines.now (c.args.from + 1) c.loop-at.at c.index-lines-at.result c.in_ok-begins_unit.field-0 c.loop-at-test.true c.index-lines-at.is c.in_ok-begins_unit.ensures c.if-branch.false c.loop-at.invariant

pub returns-clause-none : goal.returns-clause-none
returns-clause-none c = λ k l h. c.loop-at.invariant k l (omega (arith, c.loop-at-test.false))
