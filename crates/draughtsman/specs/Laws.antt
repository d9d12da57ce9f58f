-- How the replies of a pen go on.
use Rattle.std.specs.Prelude.{◌≡◌, List, ◌++◌}
use Rattle.performer_kit.specs.declared.commands.PenCommand.{PenCommand}
use Rattle.draughtsman.specs.Pen.{PenState, pen, pen_end}

pub record GoesOn : Type 0 where
  pub replies : (s : PenState) (first second : List PenCommand) → pen s (first ++ second) ≡ pen s first ++ pen (pen_end s first) second
  pub ends : (s : PenState) (first second : List PenCommand) → pen_end s (first ++ second) ≡ pen_end (pen_end s first) second
