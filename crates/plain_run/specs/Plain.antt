-- The plain transcript of a script's requests: each is answered, and its version analysed or its run carried out, before
-- the next one. docs/PROGRAM.md, "plain".
use Rattle.std.specs.Prelude.{◌≡◌, ℕ, List, [], ◌∷◌, ◌++◌, All}
use Rattle.kumir_values.specs.declared.value.Value.{Value}
use Rattle.margins.specs.declared.margin.Mark.{Mark}
use Rattle.text_versions.specs.declared.edit.Edit.{Edit}
use Rattle.text_versions.specs.Edits.{version}
use Rattle.script_lines.specs.declared.request.Ask.{Ask}
use Rattle.script_lines.specs.declared.request.Ask.TheVariants as ask
use Rattle.script_lines.specs.declared.request.Request.{Request}
use Rattle.transcript.specs.declared.entry.Entry.{Entry}
use Rattle.transcript.specs.declared.entry.Entry.TheVariants as entry
use Rattle.transcript.specs.Print.{print}
use Rattle.transcript.specs.Entries.{IsShown}
use Rattle.incr_analysis.specs.Full.{Full}
use Rattle.km_ports.specs.Ports.{SinkState, PutsInto}
use Rattle.script_lines.specs.Answer.{accepted, Answer}
use Rattle.robot_field.specs.Board.{Board}
use Rattle.plain_run.specs.Fields.{IsFieldBehind}
use Rattle.plain_run.specs.RunEntries.{IsRunOf}

-- ---- what stands behind them

-- the entry is the margin of version v: the full analysis of the text that the first v of the accepted edits make
abbrev pub IsMarginOf : List Edit → ℕ → Entry → Type 0
IsMarginOf edits v e = (marks : List Mark) × Full (version edits v) marks × (e ≡ entry.Margin v marks)

-- the inputs that a request gives to a run
abbrev pub inputs_of : Ask → List Value
inputs_of (ask.Run inputs) = inputs
inputs_of _ = []

-- What stands directly behind an answer to this, where these requests are answered: behind `edit V` the margin of
-- version V, behind `run R V` the entries of that run of version V, and behind any other nothing.
abbrev pub StandsBehind : ℕ → List Request → Ask → Entry → List Entry → Type 0
StandsBehind budget requests a (entry.Edit v) behind = (margin : Entry) × IsMarginOf (accepted requests) v margin × (behind ≡ margin ∷ [])
StandsBehind budget requests a (entry.Run r v) behind =
    (field : Board) × IsFieldBehind requests field × IsRunOf budget r (inputs_of a) field (version (accepted requests) v) behind
StandsBehind budget requests a answer behind = behind ≡ []

-- ---- transcripts

-- These entries are the answers to the requests in order, each with what stands behind it, after the earlier requests
-- and behind the entries before. A run may take so many steps.
unfoldable pub AreAnswers : ℕ → List Request → List Entry → List Request → List Entry → Type 0
AreAnswers budget earlier before [] entries = entries ≡ []
AreAnswers budget earlier before (request ∷ requests) entries =
    (answer : Entry) × (behind : List Entry) × (rest : List Entry)
    × Answer earlier before request answer
    × StandsBehind budget (earlier ++ request ∷ []) request.ask answer behind
    × AreAnswers budget (earlier ++ request ∷ []) (before ++ answer ∷ behind) requests rest
    × (entries ≡ answer ∷ behind ++ rest)

-- the plain transcript of requests to which more may come: `margin 0` and the answers
abbrev pub IsPlainOpen : ℕ → List Request → List Entry → Type 0
IsPlainOpen budget requests entries =
    (margin : Entry) × (answers : List Entry)
    × IsMarginOf [] 0 margin × AreAnswers budget [] (margin ∷ []) requests answers × (entries ≡ margin ∷ answers)

-- the plain transcript of all requests of a script: `bye` is last
abbrev pub IsPlain : ℕ → List Request → List Entry → Type 0
IsPlain budget requests entries = (answered : List Entry) × IsPlainOpen budget requests answered × (entries ≡ answered ++ entry.Bye ∷ [])

-- these entries were printed, and each is one that a transcript can show
pub record Shows (entries : List Entry) (before now : SinkState) : Type 0 where
  pub put : PutsInto before now (print entries)
  pub shown : All IsShown entries

-- entries that are such were printed
abbrev pub PutsEntries : (List Entry → Type 0) → SinkState → SinkState → Type 0
PutsEntries Are before now = (entries : List Entry) × Are entries × Shows entries before now
