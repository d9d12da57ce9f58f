use Rattle.std.proofs.Common.{◌≡◌, ◌++◌, drop}
use Rattle.std.specs.List.{AllByRecursion}
use Rattle.kumir_tree.specs.Units.{units_of}
use Rattle.kumir_tree.specs.Sound.{IsPlaced}
use Rattle.type_rules.specs.Headers.{callees_of}
use Rattle.type_rules.specs.Counted.{all_counted, all_faults}
use Rattle.type_rules.proofs.units.count_headers.Given as goal

abbrev pub invariant-loop-unit : goal.invariant-loop-unit
invariant-loop-unit l = record {
  placed : AllByRecursion IsPlaced (units_of (drop l.unit-index l.units));
  counted : all_counted (callees_of l.headers) (units_of (drop l.unit-index l.units)) ≡ all_counted (callees_of l.fn.headers) (units_of l.units);
  faulty : l.faults ++ all_faults (callees_of l.headers) (units_of (drop l.unit-index l.units)) ≡ l.fn.faults ++ all_faults (callees_of l.fn.headers) (units_of l.units);
}
