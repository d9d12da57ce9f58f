-- The entries of a run behind its `run R V`: its refusal, or its outputs, what its performers carried out, and its end.
-- docs/PROGRAM.md, "plain".
use Rattle.std.specs.Prelude.{◌≡◌, ℕ, ◌+◌, Bool, true, false, List, [], ◌∷◌, ◌++◌, Option, Some, None}
use Rattle.performer_kit.specs.declared.commands.Command.{Command}
use Rattle.performer_kit.specs.declared.commands.Command.TheVariants.{Robot, Pen}
use Rattle.performer_kit.specs.declared.commands.Reply.{Reply}
use Rattle.robot_field.specs.Board.{Board, board_after, reply_to}
use Rattle.draughtsman.specs.Pen.{PenState, fresh, state_after, drawn_by, reply_of}
use Rattle.kumir_tree.specs.declared.unit.Fault.{Fault}
use Rattle.kumir_tree.specs.Unit.{Known}
use Rattle.kumir_values.specs.declared.value.Value.{Value}
use Rattle.kumir_values.specs.declared.run_end.EndKind.{EndKind}
use Rattle.kumir_meaning.specs.Program.{Program, program_of}
use Rattle.kumir_meaning.specs.Runs.{Act, Printed, Sent, Trace, end_of}
use Rattle.type_check.specs.Margin.{program_faults}
use Rattle.closed_meaning.specs.Play.{IsPlay}
use Rattle.transcript.specs.declared.entry.Entry.{Entry}
use Rattle.transcript.specs.declared.entry.Entry.TheVariants as entry
use Rattle.incr_analysis.specs.Full.{AreUnits, has_main}

-- ---- performers

-- how many commands the Robot has carried out and its field, and so the pen
pub record Performers : Type 0 where
  pub steps : ℕ
  pub field : Board
  pub moves : ℕ
  pub pen : PenState

-- at the begin of a run on this field
abbrev pub ready_on : Board → Performers
ready_on field = record { steps = 0; field = field; moves = 0; pen = fresh }

-- after they carried a command out
abbrev pub with_command : Performers → Command → Performers
with_command w (Robot command) = record w { steps = w.steps + 1; field = board_after w.field command }
with_command w (Pen command) = record w { moves = w.moves + 1; pen = state_after w.pen command }

abbrev pub reply_by : Performers → Command → Reply
reply_by w (Robot command) = reply_to w.field command
reply_by w (Pen command) = reply_of (drawn_by w.pen command)

-- the report of the next command in run R
abbrev pub report : ℕ → Performers → Command → Entry
report r w (Robot command) = entry.Robot r (w.steps + 1) command (reply_by w (Robot command))
report r w (Pen command) = entry.Pen r (w.moves + 1) command (reply_by w (Pen command))

-- ---- a run

-- what run R does, an entry for each act, in order: an output, or the report of a command
abbrev pub act_entries : ℕ → Performers → List Act → List Entry
act_entries r w [] = []
act_entries r w (Printed text ∷ acts) = entry.Out r text ∷ act_entries r w acts
act_entries r w (Sent command ∷ acts) = report r w command ∷ act_entries r (with_command w command) acts

abbrev pub end_entries : ℕ → Option EndKind → List Entry
end_entries r None = []
end_entries r (Some kind) = entry.End r kind ∷ []

-- what run R did on this field, and how it ended
abbrev pub trace_entries : ℕ → Board → Trace → List Entry
trace_entries r field play = act_entries r (ready_on field) play.acts ++ end_entries r (end_of play.state)

-- run R of a program with these faults, with or without an algorithm to begin with, which does this on this field
abbrev pub begun_entries : Bool → ℕ → Board → Trace → List Entry
begun_entries false r field play = entry.RefusedMain r ∷ []
begun_entries true r field play = trace_entries r field play

abbrev pub run_entries : List Fault → Bool → ℕ → Board → Trace → List Entry
run_entries [] main r field play = begun_entries main r field play
run_entries (f ∷ faults) main r field play = entry.RefusedFaults r ∷ []

-- they are what run R of a program does on these inputs and this field, within so many steps, and how it ends
abbrev pub IsTraceOf : ℕ → ℕ → List Value → Board → Program → List Entry → Type 0
IsTraceOf budget r inputs field p entries = (play : Trace) × IsPlay p inputs field budget play × (entries ≡ trace_entries r field play)

-- they are those of run R of these units on these inputs and this field, within so many steps
abbrev pub IsRunOfUnits : ℕ → ℕ → List Value → Board → List (ℕ × Known) → List Entry → Type 0
IsRunOfUnits budget r inputs field units entries =
    (play : Trace) × IsPlay (program_of units) inputs field budget play
    × (entries ≡ run_entries (program_faults units) (has_main units) r field play)

-- they are those of run R of the text with these lines
abbrev pub IsRunOf : ℕ → ℕ → List Value → Board → List (List ℕ) → List Entry → Type 0
IsRunOf budget r inputs field lines entries =
    (units : List (ℕ × Known)) × AreUnits lines units × IsRunOfUnits budget r inputs field units entries
