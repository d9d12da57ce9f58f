use Rattle.std.proofs.Common.{◌≡◌}
use Rattle.performer_actors_tests.proofs.side.Side.serve.Given as goal

abbrev pub invariant-loop : goal.invariant-loop
invariant-loop g l =
    (l.self.tasks.link ≡ l.initial.self.tasks.link) × (l.self.notes.link ≡ l.initial.self.notes.link) × (l.self.replies.link ≡ l.initial.self.replies.link)
