use Rattle.draughtsman.proofs.Replies as replies
use Rattle.draughtsman.proofs.laws.pen_goes_on.Goals as goal

pub returns : goal.returns
returns c = replies.pen_goes_on
