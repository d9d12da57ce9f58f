use Rattle.std.proofs.Common.{rules, arith}
use Rattle.std.proofs.lemmas.Grind.{common_steps}
use Rattle.expr_forms.specs.Reading.{expr_in, negation_in}
use Rattle.expr_forms.proofs.Turns.{one_more, with_pending, with_one_more}
use Rattle.expr_forms.proofs.expressions.Grammar.negation.Goals as goal

pub loop-turn-preserved : goal.loop-turn-preserved
unfolding negation_in
loop-turn-preserved g c =
    let e = one_more (λ n. with_pending c.loop-turn.pending (negation_in (expr_in c.args.self.now.depth) n c.loop-turn.tokens)) _ c.loop-turn._turn c.loop-turn-test.true c.loop-turn.invariant in
    first_of (search (rules, with_one_more), grind (arith, common_steps, with_one_more))
