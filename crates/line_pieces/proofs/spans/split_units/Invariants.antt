use Rattle.std.proofs.Common.{◌≤◌, ◌<◌, ◌+◌, ◌-◌, List, [], ◌++◌, length}
use Rattle.std.specs.List.{slice_index_or, AllByRecursion}
use Rattle.line_pieces.specs.Spans.{BeginsUnit, AreSpans, Cover, IsUnitSpan}
use Rattle.line_pieces.specs.declared.spans.LineSpan.{LineSpan}
use Rattle.line_pieces.proofs.spans.split_units.Given as goal

abbrev pub invariant-loop-at : goal.invariant-loop-at
invariant-loop-at l = record {
  within : l.at ≤ length l.lines;
  begins : l.at < length l.lines → BeginsUnit (slice_index_or l.lines l.at []);
  so_far : (units : List LineSpan) → AllByRecursion (IsUnitSpan l.lines) units → Cover (l.at + 1) units (length l.lines + 1) → AreSpans l.lines (l.spans ++ units);
}

abbrev pub decreases-loop-at : goal.decreases-loop-at
decreases-loop-at l = length l.lines - l.at
