use Rattle.performer_kit.proofs.Apart.{pen_names_apart}
use Rattle.performer_kit.proofs.laws.pen_names_are_apart.Goals as goal

pub returns : goal.returns
returns c = pen_names_apart
