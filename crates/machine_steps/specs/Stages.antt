-- How far a run has come, with the algorithms that were entered and the inputs that are left.
use Rattle.std.specs.Prelude.{◌≡◌, ℕ, ◌+◌, ◌-◌, List, [], ◌∷◌, length, drop, slice_get, Option, Some, None, All}
use Rattle.performer_kit.specs.declared.commands.Command.TheVariants.{Pen}
use Rattle.kumir_values.specs.declared.run_end.EndKind.{EndKind}
use Rattle.kumir_meaning.specs.Runs.{Printed, Sent, RunState, end_of}
use Rattle.stack_code.specs.declared.instruction.CommandShape.TheVariants as shape
use Rattle.stack_code.specs.declared.instruction.Instruction.{Instruction}
use Rattle.stack_code.specs.declared.instruction.Instruction.TheVariants as code
use Rattle.stack_code.specs.declared.unit.CodeUnit.{CodeUnit}
use Rattle.stack_code.specs.Instructions.{unit_at}
use Rattle.machine_steps.specs.declared.stage.Stage.{Stage}
use Rattle.machine_steps.specs.declared.stage.Question.{Question}
use Rattle.machine_steps.specs.declared.stage.Stop.{Stop}
use Rattle.machine_steps.specs.declared.stage.Stop.TheVariants as stop
use Rattle.machine_steps.specs.Progress.{FullState, at, StepsTo}
use Rattle.machine_steps.specs.Carried.{EndsIn}
use Rattle.machine_steps.specs.Frames.{state_in, IsEntered, IsPastCalls, Waits}

abbrev pub full_state_of : List CodeUnit → Stage → FullState
full_state_of units s = at (state_in units s.running s.waiting.items) (drop s.taken s.inputs)

-- what holds of a stage in valid code
pub record IsStage (units : List CodeUnit) (s : Stage) : Type 0 where
  pub entered : IsEntered units s.running
  pub past : IsPastCalls units s.running
  pub waits : All (Waits units) s.waiting.items

-- the next instruction
abbrev pub IsNextInstruction : List CodeUnit → Instruction → ℕ → FullState → Type 0
IsNextInstruction units i line a = slice_get (unit_at units a.state.unit).body a.state.pc ≡ Some (record { line = line; what = i })

-- a step is needed next
abbrev pub NeedsStep : List CodeUnit → FullState → Type 0
NeedsStep units a = (line : ℕ) × IsNextInstruction units code.Step line a

-- a command of the Robot is sent next
abbrev pub AsksNext : List CodeUnit → Question → FullState → Type 0
AsksNext units q a = IsNextInstruction units (code.Ask (shape.Robot q.command)) q.line a

-- the run steps from the first state to the second, where it stops: it printed, told the Draughtsman, needs a step, sends a
-- command of the Robot, or it ends before
abbrev pub Stops : List CodeUnit → FullState → Stop → FullState → Type 0
Stops units a (stop.Printed text) b = StepsTo units a 0 [] (Printed text ∷ []) b
Stops units a (stop.Told command) b = StepsTo units a 0 [] (Sent (Pen command) ∷ []) b
Stops units a (stop.Over end) b = (state : RunState) × (end_of state ≡ Some end) × EndsIn units a state
Stops units a stop.Step b = StepsTo units a 0 [] [] b × NeedsStep units b
Stops units a (stop.Asks q) b = StepsTo units a 0 [] [] b × AsksNext units q b

-- the same, or it goes on
abbrev pub StopsOrGoesOn : List CodeUnit → FullState → Option Stop → FullState → Type 0
StopsOrGoesOn units a None b = StepsTo units a 0 [] [] b
StopsOrGoesOn units a (Some s) b = Stops units a s b

-- an end, as a stop
abbrev pub as_stop : Option EndKind → Option Stop
as_stop None = None
as_stop (Some end) = Some (stop.Over end)

-- the stage stays one, where the run is not over
abbrev pub StaysStage : List CodeUnit → Option Stop → Stage → Type 0
StaysStage units None s = IsStage units s
StaysStage units (Some (stop.Over end)) s = Unit {0}
StaysStage units (Some other) s = IsStage units s

-- calls that wait and inputs that are left
abbrev pub size_of : Stage → ℕ
size_of s = length s.waiting.items + (length s.inputs - s.taken)
