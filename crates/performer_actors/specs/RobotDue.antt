-- What the Robot has still to send, as lists.
use Rattle.std.specs.Prelude.{Bool, true, false, List, [], ◌∷◌}
use Rattle.performer_kit.specs.declared.commands.Reply.{Reply}
use Rattle.actor_kit.specs.declared.messages.Note.{Note}
use Rattle.actor_kit.specs.declared.messages.Note.TheVariants as note
use Rattle.performer_actors.specs.declared.robot_run.RobotDue.{RobotDue}
use Rattle.performer_actors.specs.declared.robot_run.RobotDue.TheVariants as due

abbrev pub notes_due : RobotDue → List Note
notes_due due.Nothing = []
notes_due (due.Report report) = note.Report report ∷ []
notes_due (due.Reply reply) = []
notes_due due.Gone = note.Gone ∷ []
notes_due due.Over = []

abbrev pub replies_due : RobotDue → List Reply
replies_due due.Nothing = []
replies_due (due.Report report) = report.reply ∷ []
replies_due (due.Reply reply) = reply ∷ []
replies_due due.Gone = []
replies_due due.Over = []

abbrev pub is_over : RobotDue → Bool
is_over due.Nothing = false
is_over (due.Report report) = false
is_over (due.Reply reply) = false
is_over due.Gone = false
is_over due.Over = true
