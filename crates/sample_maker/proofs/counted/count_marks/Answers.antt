use Rattle.std.proofs.Common.{ap, arith}
use Rattle.sample_maker.specs.Summaries.{mark_count}
use Rattle.sample_maker.proofs.Counts.{marks_within}
use Rattle.sample_maker.proofs.counted.count_marks.Goals as goal

pub overflow_cast-count : goal.overflow_cast-count
overflow_cast-count c =
    let within = marks_within c.args.entries.now c.loop-entry.entry-index c.entry-item.result c.loop-entry-test.true in
    omega (arith, within, c.mark_count.ensures, ap mark_count c.entry-item.is, c.requires)

pub overflow_add-count : goal.overflow_add-count
overflow_add-count c =
    let within = marks_within c.args.entries.now c.loop-entry.entry-index c.entry-item.result c.loop-entry-test.true in
    omega (arith, within, c.loop-entry.invariant, c.mark_count.ensures, ap mark_count c.entry-item.is, c.requires)
