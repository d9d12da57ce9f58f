use Rattle.std.proofs.Common.{◌≡◌}
use Rattle.mail_link_tests.proofs.tests.take_surely.Given as goal

abbrev pub invariant-loop : goal.invariant-loop
invariant-loop g l = (l.receiver.link ≡ l.fn.receiver.link) × (l.receiver.taken ≡ l.fn.receiver.taken)
