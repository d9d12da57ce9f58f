-- The Robot's law, and the causes of its turns. docs/ARCHITECTURE.md, "Actors".
use Rattle.std.specs.Prelude.{◌≡◌, ◌⊎◌, true, false, List, [], map}
use Rattle.performer_kit.specs.declared.commands.RobotCommand.{RobotCommand}
use Rattle.performer_kit.specs.declared.commands.Command.TheVariants as command
use Rattle.performer_kit.specs.declared.commands.Reply.{Reply}
use Rattle.robot_field.specs.Board.{Board, board_after, reply_to}
use Rattle.mail_link.specs.Ends.{refused, missed}
use Rattle.actor_kit.specs.declared.actor.Turn.{Turn}
use Rattle.actor_kit.specs.declared.actor.Turn.TheVariants.{Worked, Idle, Ended}
use Rattle.actor_kit.specs.declared.messages.RobotTask.{RobotTask}
use Rattle.actor_kit.specs.declared.messages.RobotTask.TheVariants as task
use Rattle.actor_kit.specs.declared.messages.Note.{Note}
use Rattle.actor_kit.specs.Sending.{SentButLast, IsDue, SentMore, TookMore}
use Rattle.performer_actors.specs.Performing.{Behaviour, Task, Begins, Acts, Closes, notes_on, replies_in, has_gone}
use Rattle.performer_actors.specs.declared.ends.RobotEnds.{RobotEnds}

-- the Robot on its field
abbrev pub robot : Behaviour Board RobotCommand
robot = record { next = board_after; reply = reply_to; named = command.Robot }

abbrev pub robot_task : RobotTask → Task Board RobotCommand
robot_task (task.Begin run field) = Begins run field
robot_task (task.Act run number command) = Acts run number command
robot_task task.Close = Closes

-- the notes that these tasks give, and the replies
abbrev pub robot_notes : List RobotTask → List Note
robot_notes tasks = notes_on robot (map robot_task tasks)

abbrev pub robot_replies : List RobotTask → List Reply
robot_replies tasks = replies_in (robot_notes tasks)

-- nothing was sent or taken on them
pub record AreUnused (ends : RobotEnds) : Type 0 where
  pub tasks : ends.tasks.taken ≡ []
  pub notes : ends.notes.sent ≡ []
  pub replies : ends.replies.sent ≡ []

-- Each command that is carried out has one report, with the reply of the field, and one reply, the same. All are sent in
-- the order in which the tasks were taken, and only the last may be unsent.
pub record RobotLaw (ends : RobotEnds) : Type 0 where
  pub notes : SentButLast ends.notes.sent (robot_notes ends.tasks.taken)
  pub replies : SentButLast ends.replies.sent (robot_replies ends.tasks.taken)

-- the ends are of the same links, and keep the law
pub record RobotKeeps (first now : RobotEnds) : Type 0 where
  pub tasks_link : now.tasks.link ≡ first.tasks.link
  pub notes_link : now.notes.link ≡ first.notes.link
  pub replies_link : now.replies.link ≡ first.replies.link
  pub law : RobotLaw first → RobotLaw now

-- ---- causes

-- all that the tasks give was sent, and `Gone` at last
pub record RobotEnded (ends : RobotEnds) : Type 0 where
  pub notes : ends.notes.sent ≡ robot_notes ends.tasks.taken
  pub replies : ends.replies.sent ≡ robot_replies ends.tasks.taken
  pub gone : has_gone ends.notes.sent ≡ true

-- a note or a reply that was due was refused; or nothing was due, and there was no task
abbrev pub NoteRefused : RobotEnds → RobotEnds → Type 0
NoteRefused before after =
    IsDue before.notes.sent (robot_notes before.tasks.taken) × (after ≡ record before { notes = refused before.notes })

abbrev pub ReplyRefused : RobotEnds → RobotEnds → Type 0
ReplyRefused before after =
    IsDue before.replies.sent (robot_replies before.tasks.taken) × (after ≡ record before { replies = refused before.replies })

pub record NoTask (before after : RobotEnds) : Type 0 where
  pub notes : before.notes.sent ≡ robot_notes before.tasks.taken
  pub replies : before.replies.sent ≡ robot_replies before.tasks.taken
  pub unchanged : after ≡ record before { tasks = missed before.tasks }

pub record RobotIdle (before after : RobotEnds) : Type 0 where
  pub not_gone : has_gone after.notes.sent ≡ false
  pub why : NoteRefused before after ⊎ (ReplyRefused before after ⊎ NoTask before after)

abbrev pub RobotCause : Turn → RobotEnds → RobotEnds → Type 0
RobotCause Worked before after = SentMore before.notes after.notes ⊎ (SentMore before.replies after.replies ⊎ TookMore before.tasks after.tasks)
RobotCause Idle before after = RobotIdle before after
RobotCause Ended before after = RobotEnded after
