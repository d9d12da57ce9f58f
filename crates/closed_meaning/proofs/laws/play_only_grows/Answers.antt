use Rattle.closed_meaning.proofs.Plays.{play_only_grows}
use Rattle.closed_meaning.proofs.laws.play_only_grows.Goals as goal

pub returns : goal.returns
returns c = play_only_grows c.laws_are_known.ensures
