use Rattle.std.proofs.Common.{◌+◌, ◌≤◌, ◌∙◌}
use Rattle.kumir_tree.specs.Units.{algorithm_of}
use Rattle.kumir_tree.specs.Sound.{HasDimensions}
use Rattle.type_rules.specs.Callees.{callee}
use Rattle.type_rules.specs.Headers.{callees_of}
use Rattle.type_check.proofs.Lines.{faults_stand}
use Rattle.type_check.proofs.margin.add_tree_faults.Goals as goal

pub add_faults-requires : goal.add_faults-requires
add_faults-requires g c = faults_stand (λ line. c.args.first + line ≤ 4294967295) HasDimensions (callee (callees_of c.args.headers.now)) (algorithm_of c.args.tree.now) c.as_slice.result.now (c.as_slice.ensures ∙ c.in_ok-found.ensures.faults) c.requires
