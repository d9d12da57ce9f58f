use Rattle.std.proofs.Common.{◌≡◌}
use Rattle.mail_link_tests.proofs.tests.post_surely.Given as goal

abbrev pub invariant-loop : goal.invariant-loop
invariant-loop g l = (l.sender.link ≡ l.fn.sender.link) × (l.sender.sent ≡ l.fn.sender.sent) × (l.due ≡ l.fn.item)
