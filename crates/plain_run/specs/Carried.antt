-- How the code goes over requests: it keeps the accepted edits and the number of runs, and no entries.
use Rattle.std.specs.Prelude.{◌≡◌, ℕ, ◌+◌, ◌⊎◌, List, [], ◌∷◌, ◌++◌, length, Result, Ok, Err}
use Rattle.km_ports.specs.Ports.{Rose, TakesFrom}
use Rattle.km_ports.specs.Whole.{TakesExactly}
use Rattle.km_ports.specs.declared.status.Status.{Status}
use Rattle.km_ports.specs.declared.status.Status.TheVariants as status
use Rattle.km_ports.specs.declared.status.Excess.TheVariants as excess
use Rattle.margins.specs.declared.margin.Mark.{Mark}
use Rattle.text_versions.specs.declared.edit.Edit.{Edit}
use Rattle.text_versions.specs.declared.versions.ApplyRefusal.{ApplyRefusal}
use Rattle.text_versions.specs.declared.versions.ApplyRefusal.TheVariants as refusal
use Rattle.text_versions.specs.Texts.{text_limits}
use Rattle.text_versions.specs.Edits.{text_after, answer_to}
use Rattle.script_lines.specs.declared.request.Ask.{Ask}
use Rattle.script_lines.specs.declared.request.Ask.TheVariants as ask
use Rattle.script_lines.specs.declared.request.Request.{Request}
use Rattle.script_lines.specs.Requests.{whole}
use Rattle.transcript.specs.declared.entry.Entry.{Entry}
use Rattle.transcript.specs.declared.entry.Entry.TheVariants as entry
use Rattle.kumir_values.specs.declared.value.Value.{Value}
use Rattle.robot_field.specs.Board.{Board}
use Rattle.robot_field.specs.FieldText.{IsFieldText, IsFirstBad}
use Rattle.incr_analysis.specs.Full.{Full}
use Rattle.plain_run.specs.Runs.{Ports, NothingFailed}
use Rattle.plain_run.specs.RunEntries.{IsRunOf}
use Rattle.plain_run.specs.Kept.{Kept}
use Rattle.plain_run.specs.Plain.{PutsEntries}

-- the entry is the margin of the version that these edits make
abbrev pub IsNewestMargin : List Edit → Entry → Type 0
IsNewestMargin edits e = (marks : List Mark) × Full (text_after edits) marks × (e ≡ entry.Margin (length edits) marks)

-- one entry, and what is kept stays as it is
abbrev pub Alone : Entry → Kept → List Entry → Kept → Type 0
Alone e kept entries after = (entries ≡ e ∷ []) × (after ≡ kept)

abbrev pub with_edit : Kept → Edit → Kept
with_edit kept e = record kept { edits = kept.edits ++ e ∷ [] }

abbrev pub with_run : Kept → Kept
with_run kept = record kept { runs = kept.runs + 1 }

-- the entries that say this outcome of an edit, and what is kept then
abbrev pub SaysEdit : Result ℕ ApplyRefusal → Kept → Edit → List Entry → Kept → Type 0
SaysEdit (Ok version) kept e entries after =
    (margin : Entry) × IsNewestMargin after.edits margin × (after ≡ with_edit kept e) × (entries ≡ entry.Edit version ∷ margin ∷ [])
SaysEdit (Err refusal.Range) kept e entries after = Alone entry.EditRange kept entries after
SaysEdit (Err refusal.TooLong) kept e entries after = Alone entry.EditLong kept entries after
SaysEdit (Err refusal.TooMany) kept e entries after = Alone entry.EditMany kept entries after
SaysEdit (Err refusal.Memory) kept e entries after = ⊥

-- the next run, of the newest version, on the field that is kept
abbrev pub SaysRun : Kept → List Value → List Entry → Kept → Type 0
SaysRun kept inputs entries after =
    (behind : List Entry) × IsRunOf kept.budget (kept.runs + 1) inputs kept.field (text_after kept.edits) behind
    × (after ≡ with_run kept) × (entries ≡ entry.Run (kept.runs + 1) (length kept.edits) ∷ behind)

-- lines that are a field take the place of the field that is kept, and else it stays
abbrev pub SaysField : Kept → List (List ℕ) → List Entry → Kept → Type 0
SaysField kept lines entries after =
    ((field : Board) × IsFieldText lines field × (entries ≡ entry.FieldOk ∷ []) × (after ≡ record kept { field = field }))
    ⊎ ((bad : ℕ) × IsFirstBad lines bad × Alone (entry.FieldBad bad) kept entries after)

-- the entries that answer what the request at that line asks for, where this is kept, and what is kept then
abbrev pub Answers : ℕ → Ask → Kept → List Entry → Kept → Type 0
Answers line (ask.Edit e) kept entries after = SaysEdit (answer_to text_limits kept.edits e) kept e entries after
Answers line (ask.Field lines) kept entries after = SaysField kept lines entries after
Answers line (ask.Run inputs) kept entries after = SaysRun kept inputs entries after
Answers line ask.Stop kept entries after = Alone entry.StopIdle kept entries after
Answers line ask.Wait kept entries after = Alone entry.Waited kept entries after
Answers line ask.Bad kept entries after = Alone (entry.Bad line) kept entries after

-- the answers to requests, one after the other
unfoldable pub Carries : Kept → List Request → List Entry → Kept → Type 0
Carries kept [] entries after = (entries ≡ []) × (after ≡ kept)
Carries kept (r ∷ requests) entries after =
    (first : List Entry) × (between : Kept) × (rest : List Entry)
    × Answers r.line r.ask kept first between × Carries between requests rest after × (entries ≡ first ++ rest)

-- ---- parts of a run

-- why a part of a run stopped, where so many bytes might still come: the source or the sink failed, one byte more than
-- these was taken, or memory was wanted. No other count of faults rose.
abbrev pub StopsFor : {T : Type 0} → ℕ → Ports → Result T Status → Type 0
StopsFor room p (Ok x) = NothingFailed p
StopsFor room p (Err status.Read) = Rose p.source_before.faults p.source.faults × (p.sink.faults ≡ p.sink_before.faults)
StopsFor room p (Err status.Write) = (p.source.faults ≡ p.source_before.faults) × Rose p.sink_before.faults p.sink.faults
StopsFor room p (Err status.Memory) = NothingFailed p
StopsFor room p (Err (status.TooLong excess.Bytes)) = TakesExactly (room + 1) p.source_before p.source × NothingFailed p
StopsFor room p (Err _) = ⊥

-- these bytes were read behind those before, and the requests that they complete were carried out
pub record HasCarried (p : Ports) (fed : List ℕ) (piece : List ℕ) (before after : Kept) : Type 0 where
  pub taken : TakesFrom p.source_before p.source piece
  pub more : List Request
  pub are_more : whole (fed ++ piece) ≡ whole fed ++ more
  pub put : PutsEntries (λ entries. Carries before more entries after) p.sink_before p.sink
