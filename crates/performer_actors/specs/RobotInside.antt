-- What the Robot's actor keeps.
use Rattle.std.specs.Prelude.{◌≡◌, ◌++◌, map, Option}
use Rattle.robot_field.specs.Board.{Board}
use Rattle.performer_actors.specs.Performing.{Stand}
use Rattle.performer_actors.specs.Telling.{Tells}
use Rattle.performer_actors.specs.RobotLaw.{robot, robot_task, robot_replies}
use Rattle.performer_actors.specs.RobotDue.{notes_due, replies_due, is_over}
use Rattle.performer_actors.specs.declared.ends.RobotEnds.{RobotEnds}
use Rattle.performer_actors.specs.declared.robot_run.RobotDue.{RobotDue}

pub record IsRobot (begun : Option (Stand Board)) (due : RobotDue) (ends : RobotEnds) : Type 0 where
  pub tells : Tells robot (map robot_task ends.tasks.taken) begun ends.notes.sent (notes_due due) (is_over due)
  pub replies : ends.replies.sent ++ replies_due due ≡ robot_replies ends.tasks.taken
