-- The performers of a run in the code.
use Rattle.draughtsman.specs.Pen.{state_of}
use Rattle.plain_run.specs.declared.performing.Performing.{Performing}
use Rattle.plain_run.specs.RunEntries.{Performers}

abbrev pub performers_in : Performing → Performers
performers_in w = record { steps = w.steps; field = w.field; moves = w.pen.moves; pen = state_of w.pen }
