-- A machine at the begin of a run.
use Rattle.std.specs.Prelude.{◌≡◌, ℕ, List, Some}
use Rattle.kumir_values.specs.declared.value.Value.{Value}
use Rattle.kumir_meaning.specs.Program.{Program}
use Rattle.kumir_compiler.specs.Laws.{RunsAs}
use Rattle.kumir_machine.specs.Course.{Course, begun}

-- the machine did nothing yet, and its code runs as this program
pub record IsAtBegin (p : Program) (inputs : List Value) (budget : ℕ) (c : Course) : Type 0 where
  pub begun : c ≡ begun c.code inputs budget
  pub entry : c.code.entry ≡ Some 0
  pub means : RunsAs c.code.units p
