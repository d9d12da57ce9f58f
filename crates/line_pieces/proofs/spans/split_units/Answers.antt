use Rattle.std.proofs.Common.{arith, ◌+◌, append-nil, [], ◌≡◌, length}
use Rattle.line_pieces.proofs.Firsts.{span_more}
use Rattle.line_pieces.proofs.spans.split_units.Goals as goal

pub loop-at-preserved : goal.loop-at-preserved
loop-at-preserved c = record {
  within = c.in_ok-end.ensures.within;
  begins = c.in_ok-end.ensures.begins;
  so_far = λ units all cover. rw c.in_ok-push-2.ensures.ok
      (span_more c.args.lines.now c.loop-at.at c.in_ok-end.end c.loop-at.spans units c.loop-at-test.true (c.loop-at.invariant.begins c.loop-at-test.true) c.in_ok-end.ensures.behind c.in_ok-end.ensures.none c.loop-at.invariant.so_far all cover);
}

pub returns : goal.returns
returns c = rw append-nil at (c.loop-at.invariant.so_far [] tt (let e : c.loop-at.at + 1 ≡ length c.args.lines.now + 1 = omega (arith, c.loop-at.invariant.within, c.loop-at-test.false) in e))
