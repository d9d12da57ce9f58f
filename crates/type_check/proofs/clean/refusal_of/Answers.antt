use Rattle.type_check.proofs.Marked.{has_marks}
use Rattle.type_check.proofs.clean.refusal_of.Goals as goal

pub returns-in-Ok : goal.returns-in-Ok
returns-in-Ok c = (c.in-Ok.ensures, has_marks c.args.faults.now c.in-Ok.margin c.in-Ok.ensures c.requires)
