use Rattle.std.proofs.Common.{arith}
use Rattle.expr_forms.specs.Reading.{expr_in}
use Rattle.expr_forms.proofs.Turns.{deeper}
use Rattle.expr_forms.proofs.expressions.+expr.Goals as goal

pub returns : goal.returns
unfolding expr_in
returns t c = rw (deeper (λ n. expr_in n c.args.tokens.now) c.args.depth (omega arith)) c.disjunction.ensures
