-- What contracts see of an analysed text.
use Rattle.std.specs.Prelude.{ℕ, List}
use Rattle.kumir_tree.specs.declared.unit.UnitRead.{UnitRead}
use Rattle.margins.specs.declared.margin.Mark.{Mark}

pub record AnalysedText : Type 0 where
  pub version : ℕ
  pub text : List (List ℕ)
  -- the prelude and the units, each with its first line
  pub units : List (ℕ × UnitRead)
  pub margin : List Mark
