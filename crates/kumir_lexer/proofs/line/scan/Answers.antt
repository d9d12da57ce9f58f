use Rattle.std.proofs.Common.{◌∙◌, sym, subst, arith, append-nil, [], Some, None}
use Rattle.kumir_lexer.specs.Steps.{IsStep}
use Rattle.kumir_lexer.proofs.Steps.{cut_blank_at, cut_fault, over_comment, over_end}
use Rattle.kumir_lexer.proofs.line.scan.Goals as goal

pub returns-then-begins_comment : goal.returns-then-begins_comment
returns-then-begins_comment c =
    rw append-nil at (c.loop-at.invariant.so_far [] None (over_comment c.loop-at.at c.index-line-at.result c.args.line.now (c.loop-at-test.true, c.index-line-at.is) (sym c.begins_comment.ensures ∙ c.if-begins_comment.true)))

pub loop-at-preserved-then-is_blank : goal.loop-at-preserved-then-is_blank
loop-at-preserved-then-is_blank c = record {
  in_range = omega arith;
  so_far = λ ts fault cut. c.loop-at.invariant.so_far ts fault (cut_blank_at c.loop-at.is_after_name c.loop-at.at c.index-line-at.result c.args.line.now ts fault (c.loop-at-test.true, c.index-line-at.is) (sym c.is_blank.ensures ∙ c.if-is_blank.true) cut);
}

pub returns-in-Fault : goal.returns-in-Fault
returns-in-Fault c =
    let here = subst (IsStep c.loop-at.is_after_name c.args.line.now c.loop-at.at) c.in-Fault.is c.in_ok-token.ensures in
    rw append-nil at (c.loop-at.invariant.so_far [] (Some c.in-Fault.fault) (cut_fault c.loop-at.is_after_name c.loop-at.at c.index-line-at.result c.args.line.now c.in-Fault.fault (c.loop-at-test.true, c.index-line-at.is) (sym c.is_blank.ensures ∙ c.if-is_blank.false) (sym c.begins_comment.ensures ∙ c.if-begins_comment.false) here.0 here.1))

pub returns : goal.returns
returns c = rw append-nil at (c.loop-at.invariant.so_far [] None (over_end c.loop-at.at c.args.line.now c.loop-at.invariant.in_range c.loop-at-test.false))
