use Rattle.std.proofs.Common.{◌≡◌, ◌≤◌, ◌+◌, ◌++◌, drop, map}
use Rattle.kumir_tree.specs.Sound.{FaultsHold}
use Rattle.type_check.specs.Margin.{on_line}
use Rattle.type_check.proofs.margin.add_faults.Given as goal

abbrev pub invariant-loop-fault : goal.invariant-loop-fault
invariant-loop-fault l = record {
  fits : FaultsHold (λ line. l.first + line ≤ 4294967295) (drop l.fault-index l.faults);
  out : l.out ++ map (on_line l.first) (drop l.fault-index l.faults) ≡ l.fn.out ++ map (on_line l.first) l.faults;
}
