use Rattle.std.proofs.Common.{◌≡◌}
use Rattle.kumir_lexer.specs.Joined.{joined}
use Rattle.kumir_lexer.proofs.line.join.Given as goal

abbrev pub invariant-loop-word : goal.invariant-loop-word
invariant-loop-word l = l.tokens ≡ joined l.yielded
