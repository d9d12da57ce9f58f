use Rattle.std.proofs.Common.{rules}
use Rattle.beacon_word.proofs.Moves.{begins, forks}
use Rattle.beacon_word.proofs.ends.beacon.Goals as goal

pub ruled-requires : goal.ruled-requires
ruled-requires c = (search rules, (search rules, begins))

pub split_pass-theirs-requires : goal.split_pass-theirs-requires
split_pass-theirs-requires c = (search rules, (search rules, (search rules, forks _ _ (search rules) (search rules))))
