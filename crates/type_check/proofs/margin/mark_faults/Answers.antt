use Rattle.std.proofs.Common.{ap, [], ◌∙◌}
use Rattle.type_check.specs.Kept.{kept}
use Rattle.type_check.proofs.Marked.{kept_is_margin}
use Rattle.type_check.proofs.margin.mark_faults.Goals as goal

pub returns : goal.returns
returns c = kept_is_margin c.args.faults.now c.in_ok-pairs.pairs.items c.in_ok-margin.margin c.in_ok-pairs.ensures.same c.in_ok-pairs.ensures.sorted (c.in_ok-margin.ensures ∙ ap (kept []) c.as_slice.ensures.value) c.marks.ensures.margin
