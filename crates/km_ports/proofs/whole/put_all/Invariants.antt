use Rattle.std.proofs.Common.{◌≡◌, ◌≤◌, ◌-◌, length, take}
use Rattle.km_ports.specs.Ports.{PutsInto}
use Rattle.km_ports.proofs.whole.put_all.Given as goal

abbrev pub invariant-loop-at : goal.invariant-loop-at
invariant-loop-at g l = record {
  within : l.at ≤ length l.bytes;
  bytes : PutsInto (g.O.Sink.state l.initial.output) (g.O.Sink.state l.output) (take l.at l.bytes);
  count : (g.O.Sink.state l.output).faults ≡ (g.O.Sink.state l.initial.output).faults;
}

abbrev pub decreases-loop-at : goal.decreases-loop-at
decreases-loop-at g l = length l.bytes - l.at
