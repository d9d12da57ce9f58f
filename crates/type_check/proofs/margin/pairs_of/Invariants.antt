use Rattle.std.proofs.Common.{◌≡◌, ◌++◌, drop, map}
use Rattle.type_check.specs.Kept.{pair_of}
use Rattle.type_check.proofs.margin.pairs_of.Given as goal

abbrev pub invariant-loop-fault : goal.invariant-loop-fault
invariant-loop-fault l = l.pairs.items ++ map pair_of (drop l.fault-index l.faults) ≡ map pair_of l.faults
