use Rattle.std.proofs.Common.{◌≡◌, ◌<◌, length, sym, subst, ◌∙◌}
use Rattle.kumir_tree.specs.Units.{units_of}
use Rattle.line_pieces.specs.Spans.{AreSpans}
use Rattle.incr_analysis.specs.Full.{Along}
use Rattle.incr_analysis.specs.Answers.{IsSoundAt}
use Rattle.incr_analysis.proofs.Sounds.{spans_sound}
use Rattle.incr_analysis.proofs.Seen.{sees_without, newer_without}
use Rattle.incr_analysis.proofs.Wholes.{whole_of, few_lines}
use Rattle.incr_analysis.proofs.analyser.Analyser.analyse.Goals as goal

pub analysed-requires-clause-sound : goal.analysed-requires-clause-sound
analysed-requires-clause-sound g c =
    let lines : c.as_slice-2.result.now ≡ c.as_slice.result.now = c.as_slice-2.ensures ∙ sym c.as_slice.ensures in
    let spans : AreSpans c.as_slice-2.result.now c.as_slice-3.result.now = subst (λ l. AreSpans l c.as_slice-3.result.now) (sym lines) (subst (λ s. AreSpans c.as_slice.result.now s) (sym c.as_slice-3.ensures) c.in_ok-spans.ensures) in
    spans_sound c.as_slice-2.result.now c.as_slice-3.result.now (units_of c.in-Whole.units)
    (few_lines _ c.in_ok-lines.lines c.as_slice-2.result.now 0 c.count.result c.as_slice-2.ensures c.in_ok-lines.ensures (subst (λ t. length t < 4294967295) (c.deref-2.ensures ∙ sym c.deref.ensures) c.count.ensures.text.lines))
    spans
    (whole_of c.in_ok-newer.field-0 c.in-Whole.units (λ us. Along (IsSoundAt (length c.as_slice-2.result.now)) _ c.as_slice-3.result.now (units_of us)) c.in-Whole.is c.in_ok-newer.ensures.sound)

pub returns-in-Whole-clause-seen : goal.returns-in-Whole-clause-seen
returns-in-Whole-clause-seen g c = sees_without _ _ _ _ c.read_units.ensures.seen c.analysed.ensures.whole

pub returns-in-Whole-clause-newer : goal.returns-in-Whole-clause-newer
returns-in-Whole-clause-newer g c = newer_without _ _ c.analysed.ensures.whole
