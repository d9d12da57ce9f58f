-- The text of a field, line by line. docs/PROGRAM.md, "Field text".
use Rattle.std.specs.Prelude.{List, ℕ, ◌∷◌, ◌++◌, codes}
use Rattle.std.specs.Fmt.{decimal}
use Rattle.robot_field.specs.declared.text.MarkKind.{MarkKind}
use Rattle.robot_field.specs.declared.text.MarkKind.TheVariants.{Paint, RightWall, BelowWall}
use Rattle.robot_field.specs.declared.text.Mark.{Mark}
use Rattle.robot_field.specs.declared.text.Header.{Header}
use Rattle.robot_field.specs.Numbers.{IsCount, pair_text}

abbrev pub kind_word : MarkKind → List ℕ
kind_word Paint = codes "paint"
kind_word RightWall = codes "right"
kind_word BelowWall = codes "below"

abbrev pub mark_text : Mark → List ℕ
mark_text m = kind_word m.kind ++ 32 ∷ pair_text m.x m.y

abbrev pub header_text : Header → List ℕ
header_text h = decimal h.width ++ 32 ∷ (decimal h.height ++ 32 ∷ pair_text h.x h.y)

pub record IsCountedMark (m : Mark) : Type 0 where
  pub x : IsCount m.x
  pub y : IsCount m.y

pub record IsCountedHeader (h : Header) : Type 0 where
  pub width : IsCount h.width
  pub height : IsCount h.height
  pub x : IsCount h.x
  pub y : IsCount h.y
