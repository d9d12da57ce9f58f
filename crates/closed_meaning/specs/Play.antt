-- A run together with its Robot: what a program means on the replies of a field to its own commands. docs/LANGUAGE.md, "Performers".
use Rattle.std.specs.Prelude.{◌≡◌, ℕ, List}
use Rattle.performer_kit.specs.declared.commands.Reply.{Reply}
use Rattle.kumir_values.specs.declared.value.Value.{Value}
use Rattle.kumir_meaning.specs.Program.{Program}
use Rattle.kumir_meaning.specs.Algorithms.{run}
use Rattle.kumir_meaning.specs.Runs.{Trace}
use Rattle.robot_field.specs.Board.{Board, robot}
use Rattle.kumir_compiler.specs.Laws.{robot_commands_of}

-- This is what the program does on these inputs, with a Robot on this field, within so many steps: what it means on
-- replies that are those of the field to all the commands that it gives on them.
pub record IsPlay (p : Program) (inputs : List Value) (field : Board) (n : ℕ) (play : Trace) : Type 0 where
  pub replies : List Reply
  pub of_program : play ≡ run p inputs replies n
  pub of_field : replies ≡ robot field (robot_commands_of play.acts)
