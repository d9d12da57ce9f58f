use Rattle.std.proofs.Common.{◌+◌, ◌++◌, ap, ◌∙◌}
use Rattle.sample_maker.specs.Sample.{stage_text}
use Rattle.sample_maker.proofs.Ranges.{text_more}
use Rattle.sample_maker.proofs.sample.push_stages.Goals as goal

pub loop-before-preserved : goal.loop-before-preserved
loop-before-preserved c =
    c.in_ok-push_stage.ensures ∙ ap (λ s. s ++ stage_text (c.loop-before.before + 1)) c.loop-before.invariant ∙ text_more stage_text _ c.loop-before.before
