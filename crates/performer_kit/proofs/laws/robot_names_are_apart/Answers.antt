use Rattle.performer_kit.proofs.Apart.{robot_names_apart}
use Rattle.performer_kit.proofs.laws.robot_names_are_apart.Goals as goal

pub returns : goal.returns
returns c = robot_names_apart
