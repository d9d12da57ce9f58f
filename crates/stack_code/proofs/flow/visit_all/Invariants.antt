use Rattle.std.proofs.Common.{◌≡◌, ◌≢◌, ◌<◌, ◌≤◌, ◌-◌, ℕ, length}
use Rattle.stack_code.specs.declared.flow.Met.TheVariants.{Same, Clash}
use Rattle.stack_code.specs.Checking.{Kept, IsFollowed}
use Rattle.stack_code.proofs.flow.visit_all.Given as goal

abbrev pub invariant-loop-place : goal.invariant-loop-place
invariant-loop-place l =
    (l.place ≤ length l.fn.unit.body) × (length l.found.items ≡ length l.fn.unit.body) × (l.so_far ≢ Clash)
    × Kept l.fn.units l.fn.unit l.fn.found.items l.so_far l.found.items
    × (l.so_far ≡ Same → (k : ℕ) → k < l.place → IsFollowed l.fn.units l.fn.unit l.fn.found.items k)

abbrev pub decreases-loop-place : goal.decreases-loop-place
decreases-loop-place l = length l.fn.unit.body - l.place
