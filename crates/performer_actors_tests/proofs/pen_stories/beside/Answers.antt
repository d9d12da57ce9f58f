use denote.Param.Send.{sendable}
use Rattle.performer_actors.proofs.ActorsCross.{pen_send}
use Rattle.performer_actors_tests.proofs.pen_stories.beside.Goals as goal

pub join_mut-requires-send-F : goal.join_mut-requires-send-F
join_mut-requires-send-F g c = search (pen_send, sendable) depth 20
