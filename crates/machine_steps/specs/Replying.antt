-- The reply to a command of the Robot.
use Rattle.std.specs.Prelude.{◌≡◌, ℕ, ◌+◌, List, [], ◌∷◌, ◌++◌, Option, Some, None}
use Rattle.performer_kit.specs.declared.commands.Command.TheVariants.{Robot}
use Rattle.performer_kit.specs.declared.commands.Reply.{Reply}
use Rattle.kumir_values.specs.declared.value.Value.{Value}
use Rattle.kumir_values.specs.declared.run_end.EndKind.{EndKind}
use Rattle.kumir_meaning.specs.Runs.{Act, Sent, RunState, Going, end_of, usual}
use Rattle.stack_code.specs.declared.unit.CodeUnit.{CodeUnit}
use Rattle.stack_code.specs.CodeRuns.{exec}
use Rattle.machine_steps.specs.declared.running.Running.{Running}
use Rattle.machine_steps.specs.declared.stage.Question.{Question}
use Rattle.machine_steps.specs.Progress.{FullState, StepsTo}
use Rattle.machine_steps.specs.Frames.{line_of}
use Rattle.machine_steps.specs.Returns.{pushed}

-- it stands at a line of its unit
abbrev pub IsAtLine : List CodeUnit → Running → Type 0
IsAtLine units r = (line_of units r r.pc ≡ None) → ⊥

-- behind a command, with the value that it gave
abbrev pub with_reply_value : Running → Option Value → Running
with_reply_value r value = record r { operands = pushed value r.operands; pc = r.pc + 1 }

-- from this state on the run takes these replies, shows these acts and ends in that state, whatever is left; it is not one in which a step is needed
abbrev pub EndsBehind : List CodeUnit → FullState → List Reply → List Act → RunState → Type 0
EndsBehind units a given acts state =
    (state ≡ Going → ⊥) × ((n : ℕ) (replies : List Reply) → (j : ℕ) × (exec usual units j a.state n a.inputs (given ++ replies) ≡ Some (record { acts = acts; state = state })))

-- a command of the Robot was sent and has its reply: the run goes on, or it ends
abbrev pub Answers : List CodeUnit → FullState → Question → Reply → Option EndKind → FullState → Type 0
Answers units a q reply None b = StepsTo units a 0 (reply ∷ []) (Sent (Robot q.command) ∷ []) b
Answers units a q reply (Some end) b = (state : RunState) × (end_of state ≡ Some end) × EndsBehind units a (reply ∷ []) (Sent (Robot q.command) ∷ []) state
