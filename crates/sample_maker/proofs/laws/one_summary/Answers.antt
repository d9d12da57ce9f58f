use Rattle.km_base.specs.Limits.{usual_steps}
use Rattle.text_versions.specs.Edits.{text_after}
use Rattle.script_lines.specs.Requests.{requests}
use Rattle.script_lines.specs.Answer.{accepted}
use Rattle.sample_maker.specs.Sample.{sample}
use Rattle.sample_maker.proofs.Summarised.{some_summary, same_summary}
use Rattle.sample_maker.proofs.laws.one_summary.Goals as goal

pub returns-clause-some : goal.returns-clause-some
returns-clause-some c = λ number.
    let plain = c.one_plain_transcript.ensures.some usual_steps (requests (sample number)) in
    let spans = c.one_list_of_spans.ensures.some (text_after (accepted (requests (sample number)))) in
    some_summary number plain.0 spans.0 plain.1 spans.1

pub returns-clause-one : goal.returns-clause-one
returns-clause-one c = same_summary c.one_plain_transcript.ensures.one c.one_list_of_spans.ensures.only
