use Rattle.std.proofs.Common.{rules}
use Rattle.mail_link.proofs.Moves.{merges}
use Rattle.mail_link.proofs.ends.settle.Goals as goal

pub absorb-requires-clause-rule : goal.absorb-requires-clause-rule
absorb-requires-clause-rule g c = merges _ _ _ _ (search rules) (search rules)
