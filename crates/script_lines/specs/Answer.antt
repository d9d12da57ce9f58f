-- The answer rule: which entry answers a request, where these requests were answered before and these entries stand
-- before. docs/PROGRAM.md, "Transcript".
use Rattle.std.specs.Prelude.{ℕ, ◌≡◌, ◌+◌, ◌⊎◌, Bool, true, false, List, [], ◌∷◌, ◌++◌, Result, Ok, Err}
use Rattle.std.specs.List.{Contains, count_by, fold}
use Rattle.kumir_values.specs.declared.run_end.EndKind.{EndKind}
use Rattle.margins.specs.declared.margin.Mark.{Mark}
use Rattle.robot_field.specs.Board.{Board}
use Rattle.robot_field.specs.FieldText.{IsFieldText, IsFirstBad}
use Rattle.text_versions.specs.declared.edit.Edit.{Edit}
use Rattle.text_versions.specs.declared.versions.ApplyRefusal.{ApplyRefusal}
use Rattle.text_versions.specs.declared.versions.ApplyRefusal.TheVariants as refusal
use Rattle.text_versions.specs.Texts.{text_limits}
use Rattle.text_versions.specs.Edits.{answer_to}
use Rattle.script_lines.specs.declared.request.Ask.{Ask}
use Rattle.script_lines.specs.declared.request.Ask.TheVariants as ask
use Rattle.script_lines.specs.declared.request.Request.{Request}
use Rattle.transcript.specs.declared.entry.Entry.{Entry}
use Rattle.transcript.specs.declared.entry.Entry.TheVariants as entry

-- ---- versions

-- an edit that is accepted comes behind those accepted before; a refused one makes no version
abbrev pub with_answer : List Edit → Edit → Result ℕ ApplyRefusal → List Edit
with_answer edits e (Ok version) = edits ++ e ∷ []
with_answer edits e (Err why) = edits

abbrev pub with_ask : List Edit → Ask → List Edit
with_ask edits (ask.Edit e) = with_answer edits e (answer_to text_limits edits e)
with_ask edits _ = edits

-- the edits of these requests that were accepted, in order
abbrev pub accepted : List Request → List Edit
accepted requests = fold (λ edits r. with_ask edits r.ask) [] requests

abbrev pub is_edit : Entry → Bool
is_edit (entry.Edit version) = true
is_edit _ = false

-- the number of the newest version: how many entries `edit V` there are
abbrev pub newest : List Entry → ℕ
newest before = count_by is_edit before

-- ---- runs

abbrev pub is_run : Entry → Bool
is_run (entry.Run run version) = true
is_run _ = false

-- how many runs were taken on: how many entries `run R V` there are
abbrev pub runs_taken : List Entry → ℕ
runs_taken before = count_by is_run before

-- the run was taken on
abbrev pub IsTaken : List Entry → ℕ → Type 0
IsTaken before run = (version : ℕ) × Contains before (entry.Run run version)

-- the run was refused, or has ended
abbrev pub IsOver : List Entry → ℕ → Type 0
IsOver before run =
    Contains before (entry.RefusedFaults run) ⊎ (Contains before (entry.RefusedMain run) ⊎ ((kind : EndKind) × Contains before (entry.End run kind)))

-- the run was taken on and is not over
pub record IsOpen (before : List Entry) (run : ℕ) : Type 0 where
  pub taken : IsTaken before run
  pub going : IsOver before run → ⊥

abbrev pub SomeOpen : List Entry → Type 0
SomeOpen before = (run : ℕ) × IsOpen before run

abbrev pub NoneOpen : List Entry → Type 0
NoneOpen before = (run : ℕ) → IsOpen before run → ⊥

-- no run is open, and the newest version has its margin
pub record IsSettled (before : List Entry) : Type 0 where
  pub none : NoneOpen before
  pub marks : List Mark
  pub margin : Contains before (entry.Margin (newest before) marks)

-- ---- answers

-- the entry says this outcome of an edit: the number of the new version, or why there is none
abbrev pub SaysOutcome : List Entry → Result ℕ ApplyRefusal → Entry → Type 0
SaysOutcome before (Ok version) e = e ≡ entry.Edit (newest before + 1)
SaysOutcome before (Err refusal.Range) e = e ≡ entry.EditRange
SaysOutcome before (Err refusal.TooLong) e = e ≡ entry.EditLong
SaysOutcome before (Err refusal.TooMany) e = e ≡ entry.EditMany
SaysOutcome before (Err refusal.Memory) e = ⊥

-- the entry says of these lines that they are a field, or which of them is the first that is wrong
abbrev pub SaysField : List (List ℕ) → Entry → Type 0
SaysField lines e = ((field : Board) × IsFieldText lines field × (e ≡ entry.FieldOk)) ⊎ ((bad : ℕ) × IsFirstBad lines bad × (e ≡ entry.FieldBad bad))

-- where a run is open no other is taken on; else the entry says the next run, of the newest version
abbrev pub SaysRun : List Entry → Entry → Type 0
SaysRun before e = (SomeOpen before × (e ≡ entry.RunBusy)) ⊎ (NoneOpen before × (e ≡ entry.Run (runs_taken before + 1) (newest before)))

-- the entry answers what the request at that line asks for
abbrev pub AnswersAsk : List Request → List Entry → ℕ → Ask → Entry → Type 0
AnswersAsk earlier before line (ask.Edit edit) e = SaysOutcome before (answer_to text_limits (accepted earlier) edit) e
AnswersAsk earlier before line (ask.Field lines) e = SaysField lines e
AnswersAsk earlier before line (ask.Run inputs) e = SaysRun before e
AnswersAsk earlier before line ask.Stop e = ((run : ℕ) × IsOpen before run × (e ≡ entry.Stop run)) ⊎ (NoneOpen before × (e ≡ entry.StopIdle))
AnswersAsk earlier before line ask.Wait e = IsSettled before × (e ≡ entry.Waited)
AnswersAsk earlier before line ask.Bad e = e ≡ entry.Bad line

-- the entry answers the request, after the earlier requests and behind the entries before
abbrev pub Answer : List Request → List Entry → Request → Entry → Type 0
Answer earlier before request e = AnswersAsk earlier before request.line request.ask e
