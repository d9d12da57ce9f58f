use Rattle.std.proofs.Common.{◌<◌, ◌≤◌, subst, arith}
use Rattle.kumir_tree.specs.declared.kind.Mode.TheVariants.{Arg}
use Rattle.machine_steps.proofs.PassedParams.{counted_one, counted_all, at_most_one}
use Rattle.machine_steps.proofs.calls.count_operands.Goals as goal

pub loop-at-preserved : goal.loop-at-preserved
loop-at-preserved c =
    let few = c.loop-at.invariant.few in
    let one = at_most_one _ _ c.count_one-count.ensures in
    record {
      few = omega (arith, few, one);
      counted = counted_one c.args.params.now c.args.places.now c.loop-at.at c.loop-at.count c.count_one-count.result _ (record { mode = Arg; slot = 0 }) c.index-places-at.result c.index-places-at.result
          (subst (λ n. c.loop-at.at < n) c.min-at-end.ensures c.loop-at-test.true) c.index-places-at.is c.count_one-count.ensures c.loop-at.invariant.counted;
    }

pub returns : goal.returns
returns c = counted_all c.args.params.now c.args.places.now c.loop-at.at c.loop-at.count _ (subst (λ n. n ≤ c.loop-at.at) c.min-at-end.ensures c.loop-at-test.false) c.loop-at.invariant.counted
