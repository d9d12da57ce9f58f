-- What a run does, how it stands, what it takes from outside, and what it may use. docs/LANGUAGE.md, "Ends of a run" and "Steps".
use Rattle.std.specs.Prelude.{◌≡◌, ℕ, zero, suc, Bool, true, false, List, [], ◌∷◌, ◌++◌, ℤ, pos, Option, Some, None, Result, Ok, Err}
use Rattle.kumir_tree.specs.declared.kind.Kind.{Kind}
use Rattle.kumir_tree.specs.declared.kind.Kind.TheVariants as kind
use Rattle.performer_kit.specs.declared.commands.Command.{Command}
use Rattle.performer_kit.specs.declared.commands.PenShape.{PenShape}
use Rattle.performer_kit.specs.declared.commands.PenShape.TheVariants as shape
use Rattle.performer_kit.specs.declared.commands.PenCommand.{PenCommand}
use Rattle.performer_kit.specs.declared.commands.PenCommand.TheVariants.{Raise, Lower, To, By}
use Rattle.performer_kit.specs.declared.commands.Reply.{Reply}
use Rattle.performer_kit.specs.declared.commands.Reply.TheVariants as reply
use Rattle.kumir_values.specs.declared.value.Value.{Value}
use Rattle.kumir_values.specs.declared.value.Value.TheVariants.{Whole, Truth}
use Rattle.kumir_values.specs.declared.run_end.RunFault.{RunFault}
use Rattle.kumir_values.specs.declared.run_end.EndKind.{EndKind}
use Rattle.kumir_values.specs.declared.run_end.EndKind.TheVariants as end
use Rattle.kumir_values.specs.declared.run_end.RunFault.TheVariants.{NoInput, InputType}

-- what a run does: an output by its characters, or a command to a performer
pub data Act : Type 0 where
  Printed : List ℕ → Act
  Sent : Command → Act

-- how a run stands; lines are those of the text
pub data RunState : Type 0 where
  -- a step is needed, and none is left
  Going : RunState
  -- the last command is a Robot's, and its reply is not there
  Awaiting : RunState
  Done : RunState
  Quit : RunState
  Assert : ℕ → RunState
  Fault : ℕ → RunFault → RunState
  Wall : ℕ → RunState

-- the acts in the order of the program, and how the run stands after them
pub record Trace : Type 0 where
  pub acts : List Act
  pub state : RunState

-- the end of a run in that state; a run that awaits a reply has none
abbrev pub end_of : RunState → Option EndKind
end_of Going = Some end.Steps
end_of Awaiting = None
end_of Done = Some end.Done
end_of Quit = Some end.Quit
end_of (Assert line) = Some (end.Assert line)
end_of (Fault line fault) = Some (end.Fault line fault)
end_of (Wall line) = Some (end.Wall line)

-- the rest of a run from a state on, by the steps, the inputs and the Robot's replies that are left
abbrev pub Rest : Type 0
Rest = ℕ → List Value → List Reply → Trace

abbrev pub only : RunState → Trace
only state = record { acts = []; state = state }

abbrev pub after_act : Act → Trace → Trace
after_act act trace = record { acts = act ∷ trace.acts; state = trace.state }

-- the run ends here
abbrev pub stops : RunState → Rest
stops state steps inputs replies = only state

-- goes on with what was got, or ends with its fault on this line
abbrev pub unless_fault : {T : Type 0} → Result T RunFault → ℕ → (T → Rest) → Rest
unless_fault (Ok t) line next = next t
unless_fault (Err fault) line next = stops (Fault line fault)

-- how many algorithms may be entered at one time, and how many table elements there may be
pub record Allowed : Type 0 where
  pub depth : ℕ
  pub room : ℕ

-- what the language allows
abbrev pub usual : Allowed
usual = record { depth = 1000; room = 1000000 }

-- the first list is the beginning of the second
abbrev pub IsPrefix : {A : Type 0} → List A → List A → Type 0
IsPrefix {A} xs ys = (more : List A) × (ys ≡ xs ++ more)

-- ---- what the outside sees and gives; what goes on takes what the run holds, of any type

-- one step is taken, where one is left
abbrev pub tick : {S : Type 0} → (S → Rest) → S → Rest
tick next s zero inputs replies = only Going
tick next s (suc steps) inputs replies = next s steps inputs replies

-- an act without a reply
abbrev pub does : {S : Type 0} → Act → (S → Rest) → S → Rest
does act next s steps inputs replies = after_act act (next s steps inputs replies)

-- a command whose reply is awaited
abbrev pub asks : {S : Type 0} → Command → (Reply → S → Rest) → S → Rest
asks command next s steps inputs [] = after_act (Sent command) (only Awaiting)
asks command next s steps inputs (reply ∷ replies) = after_act (Sent command) (next reply s steps inputs replies)

-- an input as a value of a kind
abbrev pub input_as : Kind → Value → Result Value RunFault
input_as kind.Whole (Whole z) = Ok (Whole z)
input_as kind.Whole (Truth b) = Err InputType
input_as kind.Truth (Whole z) = Err InputType
input_as kind.Truth (Truth b) = Ok (Truth b)

-- the next input
abbrev pub takes : {S : Type 0} → Kind → ℕ → (Value → S → Rest) → S → Rest
takes kind line next s steps [] replies = only (Fault line NoInput)
takes kind line next s steps (v ∷ inputs) replies = unless_fault (input_as kind v) line (λ w. next w s) steps inputs replies

-- one of two ways to go on
abbrev pub choose : {S : Type 0} → Bool → (S → Rest) → (S → Rest) → S → Rest
choose true first second s = first s
choose false first second s = second s

-- ---- commands and their replies

-- a test of the Robot has the value of its reply
abbrev pub reply_value : Reply → Value
reply_value reply.Yes = Truth true
reply_value reply.No = Truth false
reply_value reply.Done = Truth false
reply_value reply.Wall = Truth false
reply_value (reply.Drawn segment) = Truth false

abbrev pub is_wall : Reply → Bool
is_wall reply.Wall = true
is_wall reply.Done = false
is_wall reply.Yes = false
is_wall reply.No = false
is_wall (reply.Drawn segment) = false

-- a command of the Draughtsman with its numbers
abbrev pub first_of_all : List ℤ → ℤ
first_of_all [] = pos 0
first_of_all (z ∷ zs) = z

abbrev pub second_of_all : List ℤ → ℤ
second_of_all [] = pos 0
second_of_all (z ∷ zs) = first_of_all zs

abbrev pub pen_command : PenShape → List ℤ → PenCommand
pen_command shape.Raise zs = Raise
pen_command shape.Lower zs = Lower
pen_command shape.To zs = To (first_of_all zs) (second_of_all zs)
pen_command shape.By zs = By (first_of_all zs) (second_of_all zs)
