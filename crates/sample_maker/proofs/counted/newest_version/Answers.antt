use Rattle.std.proofs.Common.{take, arith}
use Rattle.std.proofs.lemmas.List.{length-take-le}
use Rattle.std.proofs.lemmas.List.Sums.{count_by-le-length}
use Rattle.script_lines.specs.Answer.{is_edit}
use Rattle.sample_maker.proofs.Counts.{entries_few}
use Rattle.sample_maker.proofs.counted.newest_version.Goals as goal

pub overflow_add-count : goal.overflow_add-count
overflow_add-count c =
    let entries = c.args.entries.now in
    let i = c.loop-entry.entry-index in
    omega (arith, c.loop-entry.invariant, count_by-le-length is_edit (take i entries), length-take-le i entries (omega (arith, c.loop-entry-test.true)), c.loop-entry-test.true, entries_few entries, c.requires)
