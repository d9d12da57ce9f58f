-- What the Draughtsman has still to send, as a list.
use Rattle.std.specs.Prelude.{Bool, true, false, List, [], ◌∷◌}
use Rattle.actor_kit.specs.declared.messages.Note.{Note}
use Rattle.actor_kit.specs.declared.messages.Note.TheVariants as note
use Rattle.performer_actors.specs.declared.pen_run.PenDue.{PenDue}
use Rattle.performer_actors.specs.declared.pen_run.PenDue.TheVariants as due

abbrev pub notes_due : PenDue → List Note
notes_due due.Nothing = []
notes_due (due.Report report) = note.Report report ∷ []
notes_due due.Gone = note.Gone ∷ []
notes_due due.Over = []

abbrev pub is_over : PenDue → Bool
is_over due.Nothing = false
is_over (due.Report report) = false
is_over due.Gone = false
is_over due.Over = true
