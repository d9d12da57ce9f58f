use Rattle.std.proofs.Common.{rules, arith}
use Rattle.std.proofs.lemmas.Grind.{common_steps}
use Rattle.kumir_tree.specs.Seen.{tree}
use Rattle.expr_forms.specs.Reading.{expr_in, conjunctive, negation, chain_from}
use Rattle.expr_forms.proofs.Turns.{one_more}
use Rattle.expr_forms.proofs.expressions.Grammar.conjunction.Goals as goal

pub loop-turn-preserved : goal.loop-turn-preserved
unfolding chain_from
loop-turn-preserved g c =
    let e = one_more (λ n. chain_from conjunctive (negation (expr_in c.args.self.now.depth)) n (tree c.loop-turn.left) c.loop-turn.tokens) _ c.loop-turn._turn c.loop-turn-test.true c.loop-turn.invariant in
    first_of (search rules, grind (arith, common_steps))
