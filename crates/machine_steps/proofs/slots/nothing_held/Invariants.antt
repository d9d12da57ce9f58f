use Rattle.std.proofs.Common.{◌≤◌, ◌-◌}
use Rattle.machine_steps.specs.States.{AllEmpty}
use Rattle.machine_steps.proofs.slots.nothing_held.Given as goal

abbrev pub invariant-loop-at : goal.invariant-loop-at
invariant-loop-at l = (l.at ≤ l.fn.count) × AllEmpty l.at l.held.items

abbrev pub decreases-loop-at : goal.decreases-loop-at
decreases-loop-at l = l.fn.count - l.at
