use Rattle.std.proofs.Common.{◌≤◌, ◌-◌}
use Rattle.stack_code.specs.Checking.{AllUnknown}
use Rattle.stack_code.proofs.flow.nothing_known.Given as goal

abbrev pub invariant-loop-at : goal.invariant-loop-at
invariant-loop-at l = (l.at ≤ l.fn.count) × AllUnknown l.at l.found.items

abbrev pub decreases-loop-at : goal.decreases-loop-at
decreases-loop-at l = l.fn.count - l.at
