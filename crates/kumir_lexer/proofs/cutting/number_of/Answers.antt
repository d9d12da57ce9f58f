use Rattle.std.proofs.Common.{arith}
use Rattle.kumir_lexer.proofs.Values.{next_value}
use Rattle.kumir_lexer.proofs.cutting.number_of.Goals as goal

pub returns-then-number-gt-GREATEST_NUMBER-clause-none : goal.returns-then-number-gt-GREATEST_NUMBER-clause-none
returns-then-number-gt-GREATEST_NUMBER-clause-none c =
    omega (arith, c.if-number-gt-GREATEST_NUMBER.true, c.from.ensures, c.saturating_sub.ensures, c.from-in-loop-digit.ensures, next_value c.args.digits.now c.loop-digit.digit-index c.loop-digit.number c.digit-item.result c.loop-digit-test.true c.digit-item.is c.loop-digit.invariant.so_far)
