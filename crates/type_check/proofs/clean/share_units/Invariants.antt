use Rattle.std.proofs.Common.{◌≡◌, ◌++◌, drop}
use Rattle.kumir_tree.specs.Units.{units_of}
use Rattle.type_check.proofs.clean.share_units.Given as goal

abbrev pub invariant-loop-unit : goal.invariant-loop-unit
invariant-loop-unit l = units_of l.shared ++ units_of (drop l.unit-index l.units) ≡ units_of l.units
