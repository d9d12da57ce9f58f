use Rattle.std.proofs.Common.{rules}
use Rattle.beacon_word.proofs.Moves.{moves, merges, settles}
use Rattle.beacon_word.proofs.ends.settle.Goals as goal

pub split_pass-theirs-requires : goal.split_pass-theirs-requires
split_pass-theirs-requires g c = (search rules, (search rules, (search rules, moves _ _ (search rules))))

pub join_pass-requires : goal.join_pass-requires
join_pass-requires g c = (search rules, (search rules, (search rules, merges _ _ _ _ (search rules) (search rules))))

pub load_as-requires : goal.load_as-requires
load_as-requires g c = (search rules, (search rules, (search rules, settles _ _ (search rules) (search rules))))
