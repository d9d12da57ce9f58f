use Rattle.std.proofs.Common.{rules, arith, map}
use Rattle.std.proofs.lemmas.Grind.{common_steps}
use Rattle.kumir_tree.specs.Seen.{tree}
use Rattle.expr_forms.specs.Reading.{expr_in, listed_from}
use Rattle.expr_forms.proofs.Turns.{one_more}
use Rattle.expr_forms.proofs.expressions.Grammar.listing.Goals as goal

pub loop-turn-preserved : goal.loop-turn-preserved
unfolding listed_from
loop-turn-preserved g c =
    let e = one_more (λ n. listed_from (expr_in c.args.self.now.depth) n (map tree c.loop-turn.found) c.loop-turn.tokens) _ c.loop-turn._turn c.loop-turn-test.true c.loop-turn.invariant in
    first_of (search rules, grind (arith, common_steps))
