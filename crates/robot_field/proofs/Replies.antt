-- Replies of the Robot over lists of commands.
use Rattle.std.proofs.Common.{◌≡◌, List, [], ◌∷◌, ◌++◌, refl, ap}
use Rattle.performer_kit.specs.declared.commands.RobotCommand.{RobotCommand}
use Rattle.robot_field.specs.Board.{Board, robot, robot_end, board_after, reply_to}
use Rattle.robot_field.specs.Laws.{GoesOn}

robot-append : (b : Board) (first second : List RobotCommand) → robot b (first ++ second) ≡ robot b first ++ robot (robot_end b first) second
robot-append b [] second = refl
robot-append b (c ∷ cs) second = ap (λ replies. reply_to b c ∷ replies) (robot-append (board_after b c) cs second)

robot_end-append : (b : Board) (first second : List RobotCommand) → robot_end b (first ++ second) ≡ robot_end (robot_end b first) second
robot_end-append b [] second = refl
robot_end-append b (c ∷ cs) second = robot_end-append (board_after b c) cs second

pub robot_goes_on : GoesOn
robot_goes_on = record { replies = robot-append; ends = robot_end-append }
