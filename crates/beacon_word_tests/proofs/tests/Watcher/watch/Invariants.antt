use Rattle.std.proofs.Common.{◌≡◌}
use Rattle.beacon_word_tests.proofs.tests.Watcher.watch.Given as goal

abbrev pub invariant-loop : goal.invariant-loop
invariant-loop g l = l.self.looker.beacon ≡ l.fn.self.looker.beacon
