use Rattle.std.proofs.Common.{refl, ◌∙◌}
use Rattle.kumir_tree.specs.Units.{algorithm_of}
use Rattle.type_rules.specs.Callees.{callee}
use Rattle.type_rules.specs.Headers.{callees_of}
use Rattle.type_check.proofs.Checking.{all_faults, all_asked}
use Rattle.type_check.proofs.check.check_unit.Goals as goal

pub returns-clause-faults : goal.returns-clause-faults
returns-clause-faults g c = all_faults (callee (callees_of c.args.headers.now)) c.args.tree.now.header.gives _ (algorithm_of c.args.tree.now) refl c.in_ok-found.ensures

pub returns-clause-asked : goal.returns-clause-asked
returns-clause-asked g c = c.in_ok-asked.ensures ∙ all_asked (callee (callees_of c.args.headers.now)) c.args.tree.now.header.gives _ (algorithm_of c.args.tree.now) c.in_ok-found.ensures
