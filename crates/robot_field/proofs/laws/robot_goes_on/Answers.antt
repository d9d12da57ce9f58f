use Rattle.robot_field.proofs.Replies as replies
use Rattle.robot_field.proofs.laws.robot_goes_on.Goals as goal

pub returns : goal.returns
returns c = replies.robot_goes_on
