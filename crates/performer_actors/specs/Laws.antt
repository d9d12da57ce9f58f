-- What a run comes to, in the words of the performers: docs/LANGUAGE.md, "Performers".
use Rattle.std.specs.Prelude.{◌≡◌, ℕ, ◌+◌, List, [], ◌∷◌, ◌++◌}
use Rattle.performer_kit.specs.declared.commands.RobotCommand.{RobotCommand}
use Rattle.performer_kit.specs.declared.commands.PenCommand.{PenCommand}
use Rattle.robot_field.specs.Board as field
use Rattle.robot_field.specs.Board.{Board}
use Rattle.draughtsman.specs.Pen as sheet
use Rattle.actor_kit.specs.declared.messages.RobotTask.{RobotTask}
use Rattle.actor_kit.specs.declared.messages.RobotTask.TheVariants as robot_task
use Rattle.actor_kit.specs.declared.messages.PenTask.{PenTask}
use Rattle.actor_kit.specs.declared.messages.PenTask.TheVariants as pen_task
use Rattle.actor_kit.specs.declared.messages.Note.{Note}
use Rattle.actor_kit.specs.declared.messages.Note.TheVariants as note
use Rattle.performer_actors.specs.Performing.{Behaviour, replies_in}
use Rattle.performer_actors.specs.RobotLaw.{robot, robot_notes}
use Rattle.performer_actors.specs.PenLaw.{draughtsman, pen_notes}

-- the reports on these commands of a run, numbered from n + 1, from this place on
abbrev pub reports_on : {Place C : Type 0} → Behaviour Place C → ℕ → ℕ → Place → List C → List Note
reports_on p run n place [] = []
reports_on p run n place (c ∷ cs) =
    note.Report (record { run = run; number = n + 1; command = p.named c; reply = p.reply place c }) ∷ reports_on p run (n + 1) (p.next place c) cs

-- the commands of a run to the Robot, numbered from n + 1
abbrev pub robot_acts : ℕ → ℕ → List RobotCommand → List RobotTask
robot_acts run n [] = []
robot_acts run n (c ∷ cs) = robot_task.Act run (n + 1) c ∷ robot_acts run (n + 1) cs

abbrev pub pen_acts : ℕ → ℕ → List PenCommand → List PenTask
pen_acts run n [] = []
pen_acts run n (c ∷ cs) = pen_task.Act run (n + 1) c ∷ pen_acts run (n + 1) cs

-- A run on a field, whatever tasks came before it: each command is reported once, in order and numbered from 1, and the
-- replies are those of the field to the list of commands.
pub record RobotRunsAreTold : Type 0 where
  pub reports : (before : List RobotTask) (run : ℕ) (at : Board) (commands : List RobotCommand)
      → robot_notes (before ++ robot_task.Begin run at ∷ robot_acts run 0 commands) ≡ robot_notes before ++ reports_on robot run 0 at commands
  pub replies : (run : ℕ) (at : Board) (commands : List RobotCommand) → replies_in (reports_on robot run 0 at commands) ≡ field.robot at commands

-- a run of the Draughtsman, whose replies are those of a fresh pen
pub record PenRunsAreTold : Type 0 where
  pub reports : (before : List PenTask) (run : ℕ) (commands : List PenCommand)
      → pen_notes (before ++ pen_task.Begin run ∷ pen_acts run 0 commands) ≡ pen_notes before ++ reports_on draughtsman run 0 sheet.fresh commands
  pub replies : (run : ℕ) (commands : List PenCommand) → replies_in (reports_on draughtsman run 0 sheet.fresh commands) ≡ sheet.pen sheet.fresh commands
