use Rattle.std.proofs.Common.{◌≡◌, ◌||◌, drop, map}
use Rattle.kumir_names.specs.Variables.{scalar}
use Rattle.type_check.specs.Checked.{with_locals, declared_again}
use Rattle.type_check.proofs.check.declare_scalars.Given as goal

abbrev pub invariant-loop-name : goal.invariant-loop-name
invariant-loop-name l = record {
  added : with_locals l.locals (map (scalar l.kind) (drop l.name-index l.names)) ≡ with_locals l.fn.locals (map (scalar l.kind) l.names);
  again : (l.again || declared_again l.locals (map (scalar l.kind) (drop l.name-index l.names))) ≡ declared_again l.fn.locals (map (scalar l.kind) l.names);
}
