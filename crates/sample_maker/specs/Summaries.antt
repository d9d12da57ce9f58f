-- The summary of a number: what is read off the plain transcript of its sample. docs/PROGRAM.md, "Sample".
use Rattle.std.specs.Prelude.{◌≡◌, ℕ, ◌+◌, List, [], ◌++◌, length, codes}
use Rattle.std.specs.List.{flat_map, sum_by}
use Rattle.std.specs.Fmt.{decimal}
use Rattle.std.specs.Str.{encode_utf8_all}
use Rattle.km_base.specs.Limits.{usual_steps}
use Rattle.text_versions.specs.Edits.{text_after}
use Rattle.line_pieces.specs.declared.spans.LineSpan.{LineSpan}
use Rattle.line_pieces.specs.Spans.{AreSpans}
use Rattle.script_lines.specs.Requests.{requests}
use Rattle.script_lines.specs.Answer.{accepted, newest}
use Rattle.transcript.specs.declared.entry.Entry.{Entry}
use Rattle.transcript.specs.declared.entry.Entry.TheVariants as entry
use Rattle.plain_run.specs.Plain.{IsPlain}
use Rattle.sample_maker.specs.declared.printed.Summary.{Summary}
use Rattle.sample_maker.specs.Sample.{sample}

-- how many marks an entry shows
abbrev pub mark_count : Entry → ℕ
mark_count (entry.Margin version marks) = length marks
mark_count _ = 0

-- the output that an entry shows
abbrev pub output_of : Entry → List ℕ
output_of (entry.Out run text) = text
output_of _ = []

-- the prelude and so many algorithms are the units of the text that the requests of these bytes make
abbrev pub HasAlgorithms : List ℕ → ℕ → Type 0
HasAlgorithms script count = (spans : List LineSpan) × AreSpans (text_after (accepted (requests script))) spans × (length spans ≡ count + 1)

-- the entries are the plain transcript of a script whose runs take the usual number of steps
abbrev pub IsPlainOf : List ℕ → List Entry → Type 0
IsPlainOf script entries = IsPlain usual_steps (requests script) entries

-- the summary of the number
pub record IsSummaryOf (number : ℕ) (s : Summary) : Type 0 where
  pub same : s.number ≡ number
  pub algorithms : HasAlgorithms (sample number) s.algorithms
  pub entries : List Entry
  pub plain : IsPlainOf (sample number) entries
  pub versions : s.versions ≡ newest entries
  pub faults : s.faults ≡ sum_by mark_count entries
  pub output : s.output ≡ flat_map output_of entries

-- how a summary prints, as bytes
abbrev pub printed_summary : Summary → List ℕ
printed_summary s =
    codes "sample " ++ (decimal s.number ++ (codes "\nalgorithms " ++ (decimal s.algorithms ++ (codes "\nversions "
    ++ (decimal s.versions ++ (codes "\nfaults " ++ (decimal s.faults ++ (codes "\nout " ++ (encode_utf8_all s.output ++ codes "\n")))))))))
