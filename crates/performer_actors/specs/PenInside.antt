-- What the Draughtsman's actor keeps.
use Rattle.std.specs.Prelude.{map, Option}
use Rattle.draughtsman.specs.Pen.{PenState}
use Rattle.performer_actors.specs.Performing.{Stand}
use Rattle.performer_actors.specs.Telling.{Tells}
use Rattle.performer_actors.specs.PenLaw.{draughtsman, pen_task}
use Rattle.performer_actors.specs.PenDue.{notes_due, is_over}
use Rattle.performer_actors.specs.declared.ends.PenEnds.{PenEnds}
use Rattle.performer_actors.specs.declared.pen_run.PenDue.{PenDue}

abbrev pub IsPen : Option (Stand PenState) → PenDue → PenEnds → Type 0
IsPen begun due ends = Tells draughtsman (map pen_task ends.tasks.taken) begun ends.notes.sent (notes_due due) (is_over due)
