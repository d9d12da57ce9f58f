use Rattle.std.proofs.Common.{◌+◌, ◌++◌, ap, ◌∙◌}
use Rattle.sample_maker.specs.Sample.{next_edit}
use Rattle.sample_maker.proofs.Ranges.{text_more}
use Rattle.sample_maker.proofs.sample.push_next_edits.Goals as goal

pub loop-before-preserved : goal.loop-before-preserved
loop-before-preserved c =
    c.in_ok-push_next_edit.ensures ∙ ap (λ s. s ++ next_edit c.args.number (c.loop-before.before + 1)) c.loop-before.invariant ∙ text_more (next_edit c.args.number) _ c.loop-before.before
