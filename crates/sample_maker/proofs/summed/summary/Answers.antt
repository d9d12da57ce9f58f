use Rattle.std.proofs.Common.{ap, ◌∙◌}
use Rattle.sample_maker.proofs.Lengths.{within}
use Rattle.sample_maker.proofs.summed.summary.Goals as goal

pub count_algorithms-requires : goal.count_algorithms-requires
count_algorithms-requires c =
    within c.args.number c.deref.result.now (c.deref.ensures.value ∙ ap (λ v. v.items) c.into_bytes-script.ensures.value ∙ c.in_ok-make.ensures)

pub carry_out-requires : goal.carry_out-requires
carry_out-requires c =
    within c.args.number c.into_bytes-script.result.items (ap (λ v. v.items) c.into_bytes-script.ensures.value ∙ c.in_ok-make.ensures)
