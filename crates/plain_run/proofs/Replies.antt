-- A performer's reply is one that its command can have, and its report prints.
use Rattle.std.proofs.Common.{◌≡◌, ℕ, Bool, true, false, not, refl, inl, IsNone, Some, None, Option}
use Rattle.std.specs.Prelude.{if◌then◌else◌}
use Rattle.performer_kit.specs.declared.commands.RobotCommand.{RobotCommand}
use Rattle.performer_kit.specs.declared.commands.RobotCommand.TheVariants.{Up, Down, Left, Right, Paint, AboveFree, BelowFree, LeftFree, RightFree, AboveWall, BelowWall, LeftWall, RightWall, CellPainted, CellClean}
use Rattle.performer_kit.specs.declared.commands.PenCommand.{PenCommand}
use Rattle.performer_kit.specs.declared.commands.PenCommand.TheVariants.{Raise, Lower, To, By}
use Rattle.performer_kit.specs.declared.commands.Segment.{Segment}
use Rattle.performer_kit.specs.declared.commands.Command.{Command}
use Rattle.performer_kit.specs.declared.commands.Command.TheVariants.{Robot, Pen}
use Rattle.performer_kit.specs.declared.commands.Reply.{Reply}
use Rattle.performer_kit.specs.declared.commands.Reply.TheVariants as reply
use Rattle.performer_kit.specs.Commands.{is_test}
use Rattle.robot_field.specs.declared.side.Side.TheVariants as side
use Rattle.robot_field.specs.Board.{Board, has_wall, is_painted, reply_to, answer}
use Rattle.draughtsman.specs.Pen.{PenState, drawn_by, reply_of}
use Rattle.draughtsman.proofs.Replies.{drawn_by-none}
use Rattle.kumir_machine.specs.Course.{CanHave, is_move}
use Rattle.transcript.specs.Print.{IsRobotReply, IsPenReply, IsPrintable}
use Rattle.plain_run.specs.RunEntries.{Performers, reply_by, report}

-- ---- the Robot's

test_can : (command : RobotCommand) (holds : Bool) → is_test command ≡ true → CanHave (Robot command) (answer holds)
test_can command true test = test
test_can command false test = test

step_can : (command : RobotCommand) (wall : Bool) → is_move command ≡ true → is_test command ≡ false → CanHave (Robot command) (if wall then reply.Wall else reply.Done)
step_can command true move step = move
step_can command false move step = step

robot_can : (field : Board) (command : RobotCommand) → CanHave (Robot command) (reply_to field command)
unfolding reply_to
robot_can field Up = step_can Up (has_wall field side.Above) refl refl
robot_can field Down = step_can Down (has_wall field side.Below) refl refl
robot_can field Left = step_can Left (has_wall field side.Left) refl refl
robot_can field Right = step_can Right (has_wall field side.Right) refl refl
robot_can field Paint = refl
robot_can field AboveFree = test_can AboveFree (not (has_wall field side.Above)) refl
robot_can field BelowFree = test_can BelowFree (not (has_wall field side.Below)) refl
robot_can field LeftFree = test_can LeftFree (not (has_wall field side.Left)) refl
robot_can field RightFree = test_can RightFree (not (has_wall field side.Right)) refl
robot_can field AboveWall = test_can AboveWall (has_wall field side.Above) refl
robot_can field BelowWall = test_can BelowWall (has_wall field side.Below) refl
robot_can field LeftWall = test_can LeftWall (has_wall field side.Left) refl
robot_can field RightWall = test_can RightWall (has_wall field side.Right) refl
robot_can field CellPainted = test_can CellPainted (is_painted field) refl
robot_can field CellClean = test_can CellClean (not (is_painted field)) refl

robot_prints : (command : RobotCommand) (r : Reply) → CanHave (Robot command) r → IsRobotReply r
robot_prints command reply.Done can = tt
robot_prints command reply.Yes can = tt
robot_prints command reply.No can = tt
robot_prints command reply.Wall can = tt
robot_prints command (reply.Drawn segment) can = can

-- ---- the pen's

move_can : (command : PenCommand) (drawn : Option Segment) → CanHave (Pen command) reply.Done → ((segment : Segment) → CanHave (Pen command) (reply.Drawn segment)) → CanHave (Pen command) (reply_of drawn)
move_can command (Some segment) done draws = draws segment
move_can command None done draws = done

still_can : (command : PenCommand) (drawn : Option Segment) → CanHave (Pen command) reply.Done → IsNone drawn → CanHave (Pen command) (reply_of drawn)
still_can command (Some segment) done none = absurd (let no : ⊥ = cc in no)
still_can command None done none = done

pen_can : (pen : PenState) (command : PenCommand) → CanHave (Pen command) (reply_of (drawn_by pen command))
pen_can pen Raise = still_can Raise (drawn_by pen Raise) tt ((drawn_by-none pen Raise).1 (inl tt))
pen_can pen Lower = still_can Lower (drawn_by pen Lower) tt ((drawn_by-none pen Lower).1 (inl tt))
pen_can pen (To x y) = move_can (To x y) (drawn_by pen (To x y)) tt (λ segment. tt)
pen_can pen (By dx dy) = move_can (By dx dy) (drawn_by pen (By dx dy)) tt (λ segment. tt)

pen_prints : (drawn : Option Segment) → IsPenReply (reply_of drawn)
pen_prints (Some segment) = tt
pen_prints None = tt

-- ---- both

pub reply_can : (w : Performers) (command : Command) → CanHave command (reply_by w command)
reply_can w (Robot command) = robot_can w.field command
reply_can w (Pen command) = pen_can w.pen command

pub report_prints : (r : ℕ) (w : Performers) (command : Command) → IsPrintable (report r w command)
report_prints r w (Robot command) = robot_prints command (reply_to w.field command) (robot_can w.field command)
report_prints r w (Pen command) = pen_prints (drawn_by w.pen command)
