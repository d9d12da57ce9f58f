use Rattle.mail_link.proofs.Moves.{takes, receiver_learns}
use Rattle.mail_link.proofs.ends.Receiver.take.Goals as goal

pub pop_as-item-requires-clause-rule : goal.pop_as-item-requires-clause-rule
pop_as-item-requires-clause-rule g c = (takes _ _ c.self.invariant.1, receiver_learns _ _ c.self.invariant.1)
