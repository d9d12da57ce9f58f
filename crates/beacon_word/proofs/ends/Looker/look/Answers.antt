use Rattle.std.proofs.Common.{rules}
use Rattle.beacon_word.proofs.Moves.{shows}
use Rattle.beacon_word.proofs.ends.Looker.look.Goals as goal

pub load_as-requires : goal.load_as-requires
load_as-requires g c = (search rules, (search rules, (search rules, shows _ _ c.self.invariant.1)))
