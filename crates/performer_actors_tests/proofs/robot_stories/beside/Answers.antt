use denote.Param.Send.{sendable}
use Rattle.performer_actors.proofs.ActorsCross.{robot_send}
use Rattle.performer_actors_tests.proofs.robot_stories.beside.Goals as goal

pub join_mut-requires-send-F : goal.join_mut-requires-send-F
join_mut-requires-send-F g c = search (robot_send, sendable) depth 20
