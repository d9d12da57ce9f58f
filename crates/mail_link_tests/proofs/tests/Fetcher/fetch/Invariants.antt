use Rattle.std.proofs.Common.{◌≡◌}
use Rattle.mail_link_tests.proofs.tests.Fetcher.fetch.Given as goal

abbrev pub invariant-loop-number : goal.invariant-loop-number
invariant-loop-number g l = l.self.receiver.link ≡ l.fn.self.receiver.link
