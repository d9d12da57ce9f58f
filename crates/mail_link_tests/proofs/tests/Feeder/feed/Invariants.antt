use Rattle.std.proofs.Common.{◌≡◌}
use Rattle.mail_link_tests.proofs.tests.Feeder.feed.Given as goal

abbrev pub invariant-loop : goal.invariant-loop
invariant-loop g l = l.self.sender.link ≡ l.fn.self.sender.link
