use Rattle.std.proofs.Common.{◌≡◌, ◌||◌, drop, map}
use Rattle.kumir_tree.specs.Parts.{formal_of}
use Rattle.kumir_names.specs.Variables.{parameter}
use Rattle.type_check.specs.Checked.{with_locals, declared_again}
use Rattle.type_check.proofs.check.declare_params.Given as goal

abbrev pub invariant-loop-param : goal.invariant-loop-param
invariant-loop-param l = record {
  added : with_locals l.locals (map parameter (map formal_of (drop l.param-index l.params))) ≡ with_locals l.fn.locals (map parameter (map formal_of l.params));
  again : (l.again || declared_again l.locals (map parameter (map formal_of (drop l.param-index l.params)))) ≡ declared_again l.fn.locals (map parameter (map formal_of l.params));
}
