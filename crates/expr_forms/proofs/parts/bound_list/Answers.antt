use Rattle.std.proofs.Common.{rules, arith, map}
use Rattle.std.proofs.lemmas.Grind.{common_steps}
use Rattle.kumir_tree.specs.Parts.{limit_of}
use Rattle.expr_forms.specs.Reading.{listed_from}
use Rattle.expr_forms.specs.PartReading as spec
use Rattle.expr_forms.proofs.Turns.{one_more}
use Rattle.expr_forms.proofs.parts.bound_list.Goals as goal

pub loop-turn-preserved : goal.loop-turn-preserved
unfolding listed_from
loop-turn-preserved c =
    let e = one_more (λ n. listed_from spec.bound n (map limit_of c.loop-turn.found) c.loop-turn.tokens) _ c.loop-turn._turn c.loop-turn-test.true c.loop-turn.invariant in
    first_of (search rules, grind (arith, common_steps))
