use Rattle.std.proofs.Common.{◌+◌, ◌++◌, ap, ◌∙◌}
use Rattle.sample_maker.specs.Sample.{call_line}
use Rattle.sample_maker.proofs.Ranges.{text_more}
use Rattle.sample_maker.proofs.sample.push_calls.Goals as goal

pub loop-before-preserved : goal.loop-before-preserved
loop-before-preserved c =
    c.in_ok-push_call.ensures ∙ ap (λ s. s ++ call_line (c.loop-before.before + 1)) c.loop-before.invariant ∙ text_more call_line _ c.loop-before.before
