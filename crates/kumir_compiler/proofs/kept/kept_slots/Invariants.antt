use Rattle.std.proofs.Common.{◌≡◌, [], ◌++◌}
use Rattle.kumir_compiler.specs.ArgumentCode.{kept_at}
use Rattle.kumir_compiler.proofs.kept.kept_slots.Given as goal

abbrev pub invariant-loop-at : goal.invariant-loop-at
invariant-loop-at l = l.slots ++ kept_at l.at l.first [] ≡ kept_at l.count l.first []

abbrev pub decreases-loop-at : goal.decreases-loop-at
decreases-loop-at l = l.at
