use Rattle.std.proofs.Common.{rules, arith, map}
use Rattle.std.proofs.lemmas.Grind.{common_steps}
use Rattle.kumir_tree.specs.Parts.{formal_of}
use Rattle.expr_forms.specs.HeaderReading.{params_from}
use Rattle.expr_forms.proofs.Turns.{one_more}
use Rattle.expr_forms.proofs.headers.params.Goals as goal

pub loop-turn-preserved : goal.loop-turn-preserved
unfolding params_from
loop-turn-preserved c =
    let e = one_more (λ n. params_from n c.loop-turn.mode c.loop-turn.kind (map formal_of c.loop-turn.found) c.loop-turn.tokens) _ c.loop-turn._turn c.loop-turn-test.true c.loop-turn.invariant in
    first_of (search rules, grind (arith, common_steps))

pub returns-then-not-eat : goal.returns-then-not-eat
unfolding params_from
returns-then-not-eat c =
    let e = one_more (λ n. params_from n c.loop-turn.mode c.loop-turn.kind (map formal_of c.loop-turn.found) c.loop-turn.tokens) _ c.loop-turn._turn c.loop-turn-test.true c.loop-turn.invariant in
    first_of (search rules, grind (arith, common_steps))
