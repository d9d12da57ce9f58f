use Rattle.std.proofs.Common.{◌≡◌, ◌-◌}
use Rattle.beacon_word.specs.Beacon.{last_or_zero}
use Rattle.beacon_word_tests.proofs.tests.Climber.climb.Given as goal

abbrev pub invariant-loop-self : goal.invariant-loop-self
invariant-loop-self g l = (l.self.raiser.beacon ≡ l.fn.self.raiser.beacon) × (last_or_zero l.self.raiser.raised ≡ l.self.last)

abbrev pub decreases-loop-self : goal.decreases-loop-self
decreases-loop-self g l = l.end - l.self.last
