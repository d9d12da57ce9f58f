-- The Draughtsman's law, and the causes of its turns. docs/ARCHITECTURE.md, "Actors".
use Rattle.std.specs.Prelude.{◌≡◌, ◌⊎◌, true, false, List, [], map}
use Rattle.performer_kit.specs.declared.commands.PenCommand.{PenCommand}
use Rattle.performer_kit.specs.declared.commands.Command.TheVariants as command
use Rattle.draughtsman.specs.Pen.{PenState, fresh, state_after, drawn_by, reply_of}
use Rattle.mail_link.specs.Ends.{refused, missed}
use Rattle.actor_kit.specs.declared.actor.Turn.{Turn}
use Rattle.actor_kit.specs.declared.actor.Turn.TheVariants.{Worked, Idle, Ended}
use Rattle.actor_kit.specs.declared.messages.PenTask.{PenTask}
use Rattle.actor_kit.specs.declared.messages.PenTask.TheVariants as task
use Rattle.actor_kit.specs.declared.messages.Note.{Note}
use Rattle.actor_kit.specs.Sending.{SentButLast, IsDue, SentMore, TookMore}
use Rattle.performer_actors.specs.Performing.{Behaviour, Task, Begins, Acts, Closes, notes_on, has_gone}
use Rattle.performer_actors.specs.declared.ends.PenEnds.{PenEnds}

-- the Draughtsman with its pen
abbrev pub draughtsman : Behaviour PenState PenCommand
draughtsman = record { next = state_after; reply = λ s c. reply_of (drawn_by s c); named = command.Pen }

-- each run begins with a fresh pen
abbrev pub pen_task : PenTask → Task PenState PenCommand
pen_task (task.Begin run) = Begins run fresh
pen_task (task.Act run number command) = Acts run number command
pen_task task.Close = Closes

-- the notes that these tasks give
abbrev pub pen_notes : List PenTask → List Note
pen_notes tasks = notes_on draughtsman (map pen_task tasks)

-- nothing was sent or taken on them
pub record AreUnused (ends : PenEnds) : Type 0 where
  pub tasks : ends.tasks.taken ≡ []
  pub notes : ends.notes.sent ≡ []

-- Each command that is carried out has one report, with the reply of the pen. All are sent in the order in which the tasks
-- were taken, and only the last may be unsent.
pub record PenLaw (ends : PenEnds) : Type 0 where
  pub notes : SentButLast ends.notes.sent (pen_notes ends.tasks.taken)

-- the ends are of the same links, and keep the law
pub record PenKeeps (first now : PenEnds) : Type 0 where
  pub tasks_link : now.tasks.link ≡ first.tasks.link
  pub notes_link : now.notes.link ≡ first.notes.link
  pub law : PenLaw first → PenLaw now

-- ---- causes

-- all that the tasks give was sent, and `Gone` at last
pub record PenEnded (ends : PenEnds) : Type 0 where
  pub notes : ends.notes.sent ≡ pen_notes ends.tasks.taken
  pub gone : has_gone ends.notes.sent ≡ true

-- a note that was due was refused; or nothing was due, and there was no task
abbrev pub NoteRefused : PenEnds → PenEnds → Type 0
NoteRefused before after =
    IsDue before.notes.sent (pen_notes before.tasks.taken) × (after ≡ record before { notes = refused before.notes })

pub record NoTask (before after : PenEnds) : Type 0 where
  pub notes : before.notes.sent ≡ pen_notes before.tasks.taken
  pub unchanged : after ≡ record before { tasks = missed before.tasks }

pub record PenIdle (before after : PenEnds) : Type 0 where
  pub not_gone : has_gone after.notes.sent ≡ false
  pub why : NoteRefused before after ⊎ NoTask before after

abbrev pub PenCause : Turn → PenEnds → PenEnds → Type 0
PenCause Worked before after = SentMore before.notes after.notes ⊎ TookMore before.tasks after.tasks
PenCause Idle before after = PenIdle before after
PenCause Ended before after = PenEnded after
