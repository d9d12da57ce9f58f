-- A number has one summary.
use Rattle.std.proofs.Common.{◌≡◌, ℕ, ◌-◌, List, length, sym, ap, ◌∙◌, refl, arith}
use Rattle.std.specs.List.{flat_map, sum_by}
use Rattle.km_base.specs.Limits.{usual_steps}
use Rattle.text_versions.specs.Edits.{text_after}
use Rattle.line_pieces.specs.declared.spans.LineSpan.{LineSpan}
use Rattle.line_pieces.specs.Spans.{AreSpans}
use Rattle.line_pieces.specs.Laws.{OneListOfSpans}
use Rattle.script_lines.specs.declared.request.Request.{Request}
use Rattle.script_lines.specs.Requests.{requests}
use Rattle.script_lines.specs.Answer.{accepted, newest}
use Rattle.transcript.specs.declared.entry.Entry.{Entry}
use Rattle.plain_run.specs.Plain.{IsPlain}
use Rattle.sample_maker.specs.declared.printed.Summary.{Summary}
use Rattle.sample_maker.specs.Sample.{sample}
use Rattle.sample_maker.specs.Summaries.{mark_count, output_of, IsPlainOf, IsSummaryOf}
use Rattle.sample_maker.proofs.Spans.{spans_some}

-- what these entries and these spans of the newest text say
pub some_summary : (number : ℕ) (entries : List Entry) (spans : List LineSpan) → IsPlainOf (sample number) entries → AreSpans (text_after (accepted (requests (sample number)))) spans → (s : Summary) × IsSummaryOf number s
some_summary number entries spans plain are = (
  record {
    number = number;
    algorithms = length spans - 1;
    versions = newest entries;
    faults = sum_by mark_count entries;
    output = flat_map output_of entries;
  },
  record {
    same = refl;
    algorithms = (spans, are, omega (arith, spans_some (text_after (accepted (requests (sample number)))) spans are));
    entries = entries;
    plain = plain;
    versions = refl;
    faults = refl;
    output = refl;
  },
)

pub same_summary : ((budget : ℕ) (rs : List Request) (a b : List Entry) → IsPlain budget rs a → IsPlain budget rs b → a ≡ b) → OneListOfSpans → (number : ℕ) (a b : Summary) → IsSummaryOf number a → IsSummaryOf number b → a ≡ b
same_summary one_plain one_spans number a b p q =
    let entries = one_plain usual_steps (requests (sample number)) p.entries q.entries p.plain q.plain in
    let spans = one_spans (text_after (accepted (requests (sample number)))) p.algorithms.0 q.algorithms.0 p.algorithms.1 q.algorithms.1 in
    let numbers : a.number ≡ b.number = p.same ∙ sym q.same in
    let algorithms : a.algorithms ≡ b.algorithms = omega (arith, p.algorithms.2, q.algorithms.2, ap length spans) in
    let versions : a.versions ≡ b.versions = p.versions ∙ ap newest entries ∙ sym q.versions in
    let faults : a.faults ≡ b.faults = p.faults ∙ ap (sum_by mark_count) entries ∙ sym q.faults in
    let output : a.output ≡ b.output = p.output ∙ ap (flat_map output_of) entries ∙ sym q.output in
    (λ i. record { number = numbers i; algorithms = algorithms i; versions = versions i; faults = faults i; output = output i })
