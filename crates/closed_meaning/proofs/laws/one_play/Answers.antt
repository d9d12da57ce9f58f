use Rattle.closed_meaning.proofs.Plays.{one_play}
use Rattle.closed_meaning.proofs.laws.one_play.Goals as goal

pub returns : goal.returns
returns c = one_play c.laws_are_known.ensures
