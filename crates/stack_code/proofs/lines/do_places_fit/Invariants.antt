use Rattle.std.proofs.Common.{◌≡◌, ◌≤◌, ◌-◌, length}
use Rattle.std.specs.Prelude.{drop}
use Rattle.stack_code.specs.Validity.{places_fit}
use Rattle.stack_code.proofs.lines.do_places_fit.Given as goal

abbrev pub invariant-loop-at : goal.invariant-loop-at
invariant-loop-at l =
    (l.at ≤ length l.fn.params) × (length l.fn.params ≡ length l.fn.places)
    × (places_fit l.fn.formal l.fn.params l.fn.slots l.fn.places ≡ places_fit l.fn.formal (drop l.at l.fn.params) l.fn.slots (drop l.at l.fn.places))

abbrev pub decreases-loop-at : goal.decreases-loop-at
decreases-loop-at l = length l.fn.params - l.at
