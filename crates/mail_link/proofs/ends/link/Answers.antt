use Rattle.std.proofs.Common.{rules}
use Rattle.mail_link.proofs.Moves.{begins, forks}
use Rattle.mail_link.proofs.ends.link.Goals as goal

pub ruled-requires-clause-rule : goal.ruled-requires-clause-rule
ruled-requires-clause-rule g c = begins

pub another-theirs-requires-clause-rule : goal.another-theirs-requires-clause-rule
another-theirs-requires-clause-rule g c = forks _ _ (search rules) (search rules)
