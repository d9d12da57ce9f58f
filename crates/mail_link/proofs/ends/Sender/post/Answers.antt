use Rattle.mail_link.proofs.Moves.{puts, sender_learns}
use Rattle.mail_link.proofs.ends.Sender.post.Goals as goal

pub push_as-requires-clause-rule : goal.push_as-requires-clause-rule
push_as-requires-clause-rule g c = (puts _ _ _ _ c.self.invariant.1, sender_learns _ _ c.self.invariant.1)
