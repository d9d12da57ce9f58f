use Rattle.std.proofs.Common.{◌≡◌, ◌++◌, drop}
use Rattle.std.specs.List.{AllByRecursion}
use Rattle.kumir_tree.specs.Sound.{IsPlaced}
use Rattle.kumir_tree.specs.Units.{units_of}
use Rattle.type_rules.specs.Callees.{callee}
use Rattle.type_rules.specs.Headers.{callees_of}
use Rattle.type_check.specs.Margin.{all_placed_faults}
use Rattle.type_check.proofs.margin.add_all_faults.Given as goal

abbrev pub invariant-loop-unit : goal.invariant-loop-unit
invariant-loop-unit g l = record {
  placed : AllByRecursion IsPlaced (units_of (drop l.unit-index l.units));
  out : l.out ++ all_placed_faults (callee (callees_of l.headers)) (units_of (drop l.unit-index l.units)) ≡ l.fn.out ++ all_placed_faults (callee (callees_of l.headers)) (units_of l.units);
}
