use Rattle.closed_meaning.proofs.Plays.{play_is_answered}
use Rattle.closed_meaning.proofs.laws.play_is_answered.Goals as goal

pub returns : goal.returns
returns c = play_is_answered c.laws_are_known.ensures
