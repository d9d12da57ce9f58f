use Rattle.performer_kit.proofs.Apart.{performer_names_apart}
use Rattle.performer_kit.proofs.laws.performer_names_are_apart.Goals as goal

pub returns : goal.returns
returns c = performer_names_apart
