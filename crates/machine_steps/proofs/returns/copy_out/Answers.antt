use Rattle.std.proofs.Common.{◌≤◌, ◌<◌, ◌∙◌, subst}
use Rattle.kumir_tree.specs.declared.kind.Mode.TheVariants.{Arg}
use Rattle.machine_steps.specs.States.{slots_of}
use Rattle.machine_steps.proofs.CopiedOut.{copied_one, copied_end}
use Rattle.machine_steps.proofs.returns.copy_out.Goals as goal

pub loop-at-preserved : goal.loop-at-preserved
loop-at-preserved c = record {
  count = c.copy_one.ensures.count ∙ c.loop-at.invariant.count;
  callee_count = c.copy_one.ensures.callee_count ∙ c.loop-at.invariant.callee_count;
  copied = copied_one c.args.params.now c.args.places.now c.loop-at.at (record { mode = Arg; slot = 0 }) c.index-places-at.result c.index-places-at.result (slots_of c.loop-at.callee) (slots_of c.copy_one.new.callee) (slots_of c.loop-at.slots) (slots_of c.copy_one.new.slots) _ c.is_parameter-is_needed.result
      (subst (λ n. c.loop-at.at < n) c.min-at-end.ensures c.loop-at-test.true) c.index-places-at.is c.is_parameter-is_needed.ensures c.copy_one.ensures.kept c.copy_one.ensures.others c.in_ok-copy_one.ensures.copied c.loop-at.invariant.copied;
}

pub returns-clause-copied : goal.returns-clause-copied
returns-clause-copied c =
    copied_end c.args.params.now c.args.places.now c.loop-at.at (slots_of c.loop-at.callee) (slots_of c.loop-at.slots) _
    (subst (λ n. n ≤ c.loop-at.at) c.min-at-end.ensures c.loop-at-test.false) c.loop-at.invariant.copied
