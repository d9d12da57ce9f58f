use Rattle.std.proofs.Common.{rules}
use Rattle.beacon_word.proofs.Moves.{raises}
use Rattle.beacon_word.proofs.ends.Raiser.raise.Goals as goal

pub swap_as-requires : goal.swap_as-requires
swap_as-requires g c = (search rules, (search rules, (search rules, raises _ _ _ c.self.invariant.1 (search rules) (search rules))))
