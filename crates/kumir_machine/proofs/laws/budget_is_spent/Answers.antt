use Rattle.kumir_machine.proofs.OneCall.{ended_spent}
use Rattle.kumir_machine.proofs.laws.budget_is_spent.Goals as goal

pub returns : goal.returns
returns c = ended_spent
