use Rattle.std.proofs.Common.{◌∙◌, ap, is_some, map, true≢false}
use Rattle.std.specs.String.{string_bytes}
use Rattle.sample_maker.proofs.EndsOfSamples.{bare_run}
use Rattle.workbench.proofs.Listed.{other_option_is_none}
use Rattle.workbench.proofs.top.workbench.Goals as goal

pub returns-in-Ok-Some-Plain-clause-option : goal.returns-in-Ok-Some-Plain-clause-option
returns-in-Ok-Some-Plain-clause-option g c h =
    let none = other_option_is_none (map (λ word. string_bytes word) c.args.words.now) h in
    let met = rw c.in-Ok-Some-Plain.field-0-is at c.in-Ok-Some-Plain.ensures.command in
    absurd (true≢false (ap is_some (met ∙ none)))

pub returns-in-Ok-Some-Sample-clause-option : goal.returns-in-Ok-Some-Sample-clause-option
returns-in-Ok-Some-Sample-clause-option g c h =
    let none = other_option_is_none (map (λ word. string_bytes word) c.args.words.now) h in
    let met = rw c.in-Ok-Some-Sample.field-0-is at c.in-Ok-Some-Sample.ensures.command in
    absurd (true≢false (ap is_some (met ∙ none)))

pub returns-in-Err-clause-sample : goal.returns-in-Err-clause-sample
returns-in-Err-clause-sample g c number is =
    bare_run number (g.O.Sink.state c.args.output.now) (c.one_summary.ensures.some number)
