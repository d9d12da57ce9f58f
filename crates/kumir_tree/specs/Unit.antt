-- Units as plain data.
use Rattle.std.specs.Prelude.{ℕ, List, Option}
use Rattle.kumir_tree.specs.declared.unit.Fault.{Fault}
use Rattle.km_base.specs.declared.performers.Performers.{Performers}
use Rattle.kumir_tree.specs.Tree.{Tree}
use Rattle.kumir_tree.specs.Part.{Head}
use Rattle.kumir_tree.specs.Program.{Block}

-- an algorithm
pub record Algorithm : Type 0 where
  pub head : Head
  -- each with its line
  pub given : Option (ℕ × Tree)
  pub wanted : Option (ℕ × Tree)
  pub body : Block
  pub close : ℕ

-- how the reading of a unit ended
pub data Ending : Type 0 where
  Grown : Algorithm → Ending
  Prelude : Ending
  Faulty : List Fault → Ending

-- what was read of a unit
pub record Known : Type 0 where
  pub head : Option Head
  pub performers : Performers
  pub unknown : List Fault
  pub ending : Ending
