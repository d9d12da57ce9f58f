use Rattle.std.proofs.Common.{◌+◌}
use Rattle.line_pieces.specs.Spans.{NoneBegins}
use Rattle.line_pieces.proofs.spans.span_end.Given as goal

abbrev pub invariant-loop-at : goal.invariant-loop-at
invariant-loop-at l = NoneBegins l.lines (l.from + 1) (l.at + 1)
