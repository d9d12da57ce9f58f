-- The values of a summary are no greater than the bytes of its transcript.
use Rattle.std.proofs.Common.{◌≡◌, ℕ, ◌+◌, ◌<◌, ◌≤◌, List, [], ◌∷◌, ◌++◌, length, take, get_or, refl, length-append, arith}
use Rattle.std.specs.Prelude.{codes}
use Rattle.std.specs.List.{sum_by}
use Rattle.std.specs.Fmt.{decimal}
use Rattle.std.proofs.lemmas.List.Concat.{length-flat_map}
use Rattle.std.proofs.lemmas.List.Sums.{sum_by-le-sum_by, sum_by_more_le}
use Rattle.margins.specs.declared.margin.Mark.{Mark}
use Rattle.margins.specs.Printed.{mark_word, printed_mark, printed_margin}
use Rattle.transcript.specs.declared.entry.Entry.{Entry}
use Rattle.transcript.specs.declared.entry.Entry.TheVariants.{Edit, EditRange, EditLong, EditMany, FieldOk, FieldBad, Run, RunBusy, Stop, StopIdle, Waited, Bad, Margin, RefusedFaults, RefusedMain, Out, Robot, Pen, End, Bye}
use Rattle.transcript.specs.Print.{entry_line, printed_entry, print}
use Rattle.sample_maker.specs.Summaries.{mark_count}

feed : length (codes "\n") ≡ 1
feed = refl

blank : length (codes " ") ≡ 1
blank = refl

-- each entry has a byte at least
pub entries_few : (entries : List Entry) → length entries ≤ length (print entries)
entries_few [] = omega arith
entries_few (e ∷ entries) =
    omega (arith, entries_few entries, length-append (printed_entry e) (print entries), length-append (entry_line e) (codes "\n"), feed)

-- and each mark
marks_few : (marks : List Mark) → length marks ≤ length (printed_margin marks)
marks_few [] = omega arith
marks_few (m ∷ marks) =
    omega (arith, marks_few marks, length-append (printed_mark m) (printed_margin marks), length-append (codes " ") (mark_word m), blank)

shown_marks : (e : Entry) → mark_count e ≤ length (printed_entry e)
shown_marks (Edit version) = omega arith
shown_marks EditRange = omega arith
shown_marks EditLong = omega arith
shown_marks EditMany = omega arith
shown_marks FieldOk = omega arith
shown_marks (FieldBad line) = omega arith
shown_marks (Run run version) = omega arith
shown_marks RunBusy = omega arith
shown_marks (Stop run) = omega arith
shown_marks StopIdle = omega arith
shown_marks Waited = omega arith
shown_marks (Bad line) = omega arith
shown_marks (Margin version marks) =
    omega (arith, marks_few marks, length-append (decimal version) (printed_margin marks), length-append (codes "margin ") (decimal version ++ printed_margin marks), length-append (entry_line (Margin version marks)) (codes "\n"))
shown_marks (RefusedFaults run) = omega arith
shown_marks (RefusedMain run) = omega arith
shown_marks (Out run text) = omega arith
shown_marks (Robot run number command r) = omega arith
shown_marks (Pen run number command r) = omega arith
shown_marks (End run kind) = omega arith
shown_marks Bye = omega arith

-- the marks of entries and of one more are no more than the bytes of all
pub marks_within : (entries : List Entry) (i : ℕ) (d : Entry) → i < length entries → sum_by mark_count (take i entries) + mark_count (get_or entries i d) ≤ length (print entries)
marks_within entries i d within =
    omega (arith, sum_by_more_le mark_count entries i d within, sum_by-le-sum_by mark_count (λ e. length (printed_entry e)) entries shown_marks, length-flat_map printed_entry entries)
