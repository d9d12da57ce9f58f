-- What holds of every run together with its Robot.
use Rattle.std.specs.Prelude.{◌≡◌, ◌≢◌, ℕ, ◌≤◌, List}
use Rattle.kumir_values.specs.declared.value.Value.{Value}
use Rattle.kumir_meaning.specs.Program.{Program}
use Rattle.performer_kit.specs.declared.commands.Reply.{Reply}
use Rattle.kumir_meaning.specs.Algorithms.{run}
use Rattle.kumir_meaning.specs.Runs.{Awaiting, Trace, IsPrefix}
use Rattle.robot_field.specs.Board.{Board, robot}
use Rattle.robot_field.specs.Laws.{GoesOn}
use Rattle.kumir_compiler.specs.Laws.{robot_commands_of, Begins, MeaningOnlyGrows, NoFurtherReplyIsRead, AwaitsOneReply, CommandsAreAnswered, CommandsTakeSteps}
use Rattle.closed_meaning.specs.Play.{IsPlay}

-- there is exactly one
abbrev pub OnePlay : Type 0
OnePlay =
    (p : Program) (inputs : List Value) (field : Board) (n : ℕ)
    → (play : Trace) × IsPlay p inputs field n play × ((other : Trace) → IsPlay p inputs field n other → other ≡ play)

-- it awaits no reply
abbrev pub PlayIsAnswered : Type 0
PlayIsAnswered = (p : Program) (inputs : List Value) (field : Board) (n : ℕ) (play : Trace) → IsPlay p inputs field n play → play.state ≢ Awaiting

-- on less steps it begins that on more
abbrev pub PlayOnlyGrows : Type 0
PlayOnlyGrows =
    (p : Program) (inputs : List Value) (field : Board) (m n : ℕ) (short long : Trace)
    → m ≤ n → IsPlay p inputs field m short → IsPlay p inputs field n long → Begins short long

-- what a program does on the field's first replies to its own commands begins it
abbrev pub PlayGoesOn : Type 0
PlayGoesOn =
    (p : Program) (inputs : List Value) (field : Board) (n : ℕ) (replies : List Reply) (play : Trace)
    → IsPrefix replies (robot field (robot_commands_of (run p inputs replies n).acts)) → IsPlay p inputs field n play → Begins (run p inputs replies n) play

-- ---- what they stand on: the laws of every run, and of the replies of a field
pub record KnownLaws : Type 0 where
  pub grows : MeaningOnlyGrows
  pub settled : NoFurtherReplyIsRead
  pub awaits : AwaitsOneReply
  pub answered : CommandsAreAnswered
  pub steps : CommandsTakeSteps
  pub goes_on : GoesOn
