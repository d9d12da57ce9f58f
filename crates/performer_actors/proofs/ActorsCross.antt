-- The actors can go to another thread.
use denote.Param.Send.{IsSend, view_send, recorded_send, struct_send, sendable}
use denote.Struct.Declared.{shape}
use Rattle.std.proofs.option.Option.TheSendSync as Option
use Rattle.performer_kit.proofs.commands.Reply.TheSendSync as Reply
use Rattle.actor_kit.proofs.messages.RobotTask.TheSendSync as RobotTask
use Rattle.actor_kit.proofs.messages.PenTask.TheSendSync as PenTask
use Rattle.actor_kit.proofs.messages.Note.TheSendSync as Note
use Rattle.actor_kit.proofs.EndsCross.{sender_send, receiver_send}
use Rattle.performer_actors.specs.contracts.ends.RobotEnds as RobotEnds
use Rattle.performer_actors.specs.contracts.ends.PenEnds as PenEnds
use Rattle.performer_actors.specs.contracts.robot.RobotActor as RobotActor
use Rattle.performer_actors.specs.contracts.robot.RobotActor.TheInside as in_robot
use Rattle.performer_actors.specs.contracts.pen.PenActor as PenActor
use Rattle.performer_actors.specs.contracts.pen.PenActor.TheInside as in_pen
use Rattle.performer_actors.proofs.robot_run.RobotRun.TheSendSync as RobotRun
use Rattle.performer_actors.proofs.robot_run.RobotDue.TheSendSync as RobotDue
use Rattle.performer_actors.proofs.pen_run.PenRun.TheSendSync as PenRun
use Rattle.performer_actors.proofs.pen_run.PenDue.TheSendSync as PenDue

robot_ends_send : IsSend (RobotEnds.the_field).row
robot_ends_send = search (sender_send, receiver_send, RobotTask.the_send, Reply.the_send, Note.the_send, sendable) depth 20

pub robot_send : IsSend RobotActor.the_row
robot_send =
    view_send in_robot.the_row _ _ _ _
    (recorded_send (in_robot.the_field).row _ _ (in_robot.the_type).to_one
    (struct_send (shape in_robot.the_type) (robot_ends_send, (search (Option.the_send, RobotRun.the_send, sendable) depth 20, (RobotDue.the_field_send, tt)))))

pen_ends_send : IsSend (PenEnds.the_field).row
pen_ends_send = search (sender_send, receiver_send, PenTask.the_send, Note.the_send, sendable) depth 20

pub pen_send : IsSend PenActor.the_row
pen_send =
    view_send in_pen.the_row _ _ _ _
    (recorded_send (in_pen.the_field).row _ _ (in_pen.the_type).to_one
    (struct_send (shape in_pen.the_type) (pen_ends_send, (search (Option.the_send, PenRun.the_send, sendable) depth 20, (PenDue.the_field_send, tt)))))
