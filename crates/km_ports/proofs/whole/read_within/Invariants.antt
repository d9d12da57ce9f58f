use Rattle.std.proofs.Common.{◌≡◌, ◌+◌, ◌≤◌, ◌-◌, vec_len}
use Rattle.km_ports.specs.Ports.{TakesFrom}
use Rattle.km_ports.proofs.whole.read_within.Given as goal

abbrev pub invariant-loop-found : goal.invariant-loop-found
invariant-loop-found g l = record {
  within : vec_len l.found ≤ l.most + 1;
  bytes : TakesFrom (g.I.Source.state l.initial.input) (g.I.Source.state l.input) l.found.items;
  count : (g.I.Source.state l.input).faults ≡ (g.I.Source.state l.initial.input).faults;
}

abbrev pub decreases-loop-found : goal.decreases-loop-found
decreases-loop-found g l = l.most + 1 - vec_len l.found
