-- What is promised of the code of a program, of which programs, and of what programs mean.
use Rattle.std.specs.Prelude.{◌≡◌, ◌≢◌, ℕ, ◌+◌, ◌≤◌, List, [], ◌∷◌, ◌++◌, length}
use Rattle.kumir_tree.specs.Unit.{Known}
use Rattle.kumir_tree.specs.Sound.{IsSound}
use Rattle.performer_kit.specs.declared.commands.RobotCommand.{RobotCommand}
use Rattle.performer_kit.specs.declared.commands.PenCommand.{PenCommand}
use Rattle.performer_kit.specs.declared.commands.Command.TheVariants.{Robot, Pen}
use Rattle.performer_kit.specs.declared.commands.Reply.{Reply}
use Rattle.kumir_values.specs.declared.value.Value.{Value}
use Rattle.kumir_meaning.specs.Program.{Program, program_of}
use Rattle.kumir_meaning.specs.Algorithms.{run}
use Rattle.kumir_meaning.specs.OrderRun.{adding}
use Rattle.kumir_meaning.specs.CallsRun.{swapping}
use Rattle.kumir_meaning.specs.Runs.{Act, Printed, Sent, Awaiting, Trace, IsPrefix}
use Rattle.stack_code.specs.CodeRuns.{CodeRun}
use Rattle.stack_code.specs.declared.unit.CodeUnit.{CodeUnit}
use Rattle.stack_code.specs.Validity.{IsValid}
use Rattle.type_check.specs.Margin.{program_faults}
use Rattle.kumir_compiler.specs.Code.{code_of, entry_of}
use Rattle.kumir_compiler.specs.Compilable.{IsCompilable}

-- on all inputs and replies and within each number of steps these units run as the program means, from the first algorithm on
abbrev pub RunsAs : List CodeUnit → Program → Type 0
RunsAs units p = (inputs : List Value) (replies : List Reply) (n : ℕ) → CodeRun units 0 inputs replies n (run p inputs replies n)

abbrev pub CodeMeansTheProgram : Type 0
CodeMeansTheProgram = (p : Program) → IsCompilable p → RunsAs (code_of p) p

-- the premise holds of the sample programs with calls in an expression, and with names and elements as `аргрез` arguments
abbrev pub SamplesAreCompilable : Type 0
SamplesAreCompilable = IsCompilable adding × IsCompilable swapping

-- the premise holds of the program of all sound units without a fault
abbrev pub FaultlessIsCompilable : Type 0
FaultlessIsCompilable = (units : List (ℕ × Known)) → IsSound units → program_faults units ≡ [] → IsCompilable (program_of units)

-- the code of the program of all sound units without a fault is valid, and begins with the first algorithm, where that has no parameters
abbrev pub FaultlessCodeIsValid : Type 0
FaultlessCodeIsValid =
    (units : List (ℕ × Known)) → IsSound units → program_faults units ≡ [] → IsValid (code_of (program_of units)) (entry_of (program_of units))

-- ---- what programs mean, whether they can be compiled or not

-- the outputs among the acts of a run
abbrev pub outputs_of : List Act → List (List ℕ)
outputs_of [] = []
outputs_of (Printed text ∷ acts) = text ∷ outputs_of acts
outputs_of (Sent command ∷ acts) = outputs_of acts

-- the commands to the Robot
abbrev pub robot_commands_of : List Act → List RobotCommand
robot_commands_of [] = []
robot_commands_of (Printed text ∷ acts) = robot_commands_of acts
robot_commands_of (Sent (Robot command) ∷ acts) = command ∷ robot_commands_of acts
robot_commands_of (Sent (Pen command) ∷ acts) = robot_commands_of acts

-- the commands to the Draughtsman
abbrev pub pen_commands_of : List Act → List PenCommand
pen_commands_of [] = []
pen_commands_of (Printed text ∷ acts) = pen_commands_of acts
pen_commands_of (Sent (Robot command) ∷ acts) = pen_commands_of acts
pen_commands_of (Sent (Pen command) ∷ acts) = command ∷ pen_commands_of acts

-- what one run does begins what the other does: all of it, its outputs, and its commands to each performer
pub record Begins (short long : Trace) : Type 0 where
  pub acts : IsPrefix short.acts long.acts
  pub outputs : IsPrefix (outputs_of short.acts) (outputs_of long.acts)
  pub robot : IsPrefix (robot_commands_of short.acts) (robot_commands_of long.acts)
  pub pen : IsPrefix (pen_commands_of short.acts) (pen_commands_of long.acts)

-- a run on less steps and less replies begins the run on more
abbrev pub MeaningOnlyGrows : Type 0
MeaningOnlyGrows =
    (p : Program) (inputs : List Value) (r q : List Reply) (m n : ℕ) → m ≤ n → IsPrefix r q → Begins (run p inputs r m) (run p inputs q n)

-- a run that awaits no reply is the same with any further replies
abbrev pub NoFurtherReplyIsRead : Type 0
NoFurtherReplyIsRead =
    (p : Program) (inputs : List Value) (replies more : List Reply) (n : ℕ)
    → (run p inputs replies n).state ≢ Awaiting → run p inputs (replies ++ more) n ≡ run p inputs replies n

-- a run that awaits a reply has one command to the Robot more than replies
abbrev pub AwaitsOneReply : Type 0
AwaitsOneReply =
    (p : Program) (inputs : List Value) (replies : List Reply) (n : ℕ)
    → (run p inputs replies n).state ≡ Awaiting → length (robot_commands_of (run p inputs replies n).acts) ≡ length replies + 1

-- a run that awaits no reply has a reply to each command to the Robot
abbrev pub CommandsAreAnswered : Type 0
CommandsAreAnswered =
    (p : Program) (inputs : List Value) (replies : List Reply) (n : ℕ)
    → (run p inputs replies n).state ≢ Awaiting → length (robot_commands_of (run p inputs replies n).acts) ≤ length replies

-- each command takes a step
abbrev pub CommandsTakeSteps : Type 0
CommandsTakeSteps =
    (p : Program) (inputs : List Value) (replies : List Reply) (n : ℕ)
    → length (robot_commands_of (run p inputs replies n).acts) + length (pen_commands_of (run p inputs replies n).acts) ≤ n
