use Rattle.closed_meaning.proofs.Plays.{play_goes_on}
use Rattle.closed_meaning.proofs.laws.play_goes_on.Goals as goal

pub returns : goal.returns
returns c = play_goes_on c.laws_are_known.ensures
