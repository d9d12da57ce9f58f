use Rattle.std.proofs.Common.{◌≡◌, ◌*◌, ◌-◌, drop, length}
use Rattle.kumir_meaning.specs.Store.{same_bounds}
use Rattle.stack_code.specs.CodeState.{paired}
use Rattle.machine_steps.proofs.grid.are_bounds.Given as goal

abbrev pub invariant-loop-at : goal.invariant-loop-at
invariant-loop-at l = same_bounds (drop l.at l.bounds) (paired (drop (2 * l.at) l.ends)) ≡ same_bounds l.bounds (paired l.ends)

abbrev pub decreases-loop-at : goal.decreases-loop-at
decreases-loop-at l = length l.bounds - l.at
