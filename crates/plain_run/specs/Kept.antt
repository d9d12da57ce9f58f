-- What the code keeps of the requests carried out so far.
use Rattle.std.specs.Prelude.{ℕ, List, []}
use Rattle.robot_field.specs.Board.{Board, usual}
use Rattle.text_versions.specs.declared.edit.Edit.{Edit}

pub record Kept : Type 0 where
  -- the accepted edits
  pub edits : List Edit
  -- how many runs were taken on
  pub runs : ℕ
  -- the field of the next run
  pub field : Board
  -- how many steps a run may take
  pub budget : ℕ

-- nothing was carried out
abbrev pub begun_with : ℕ → Kept
begun_with budget = record { edits = []; runs = 0; field = usual; budget = budget }
