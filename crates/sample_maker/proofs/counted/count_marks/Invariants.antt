use Rattle.std.proofs.Common.{◌≡◌, take}
use Rattle.std.specs.List.{sum_by}
use Rattle.sample_maker.specs.Summaries.{mark_count}
use Rattle.sample_maker.proofs.counted.count_marks.Given as goal

abbrev pub invariant-loop-entry : goal.invariant-loop-entry
invariant-loop-entry l = l.count ≡ sum_by mark_count (take l.entry-index l.entries)
