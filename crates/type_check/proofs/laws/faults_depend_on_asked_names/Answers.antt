use Rattle.type_check.proofs.Asking.{asks_for_all}
use Rattle.type_check.proofs.laws.faults_depend_on_asked_names.Goals as goal

pub returns : goal.returns
returns c = asks_for_all
