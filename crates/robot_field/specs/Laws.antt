-- How the replies of the Robot go on; that the cells of a field are sets; that a wall is seen from both of its cells; and
-- that each list of lines is a field text or has a first wrong line.
use Rattle.std.specs.Prelude.{◌≡◌, ◌≢◌, ◌≤◌, ◌<◌, ◌⊎◌, ℕ, Bool, true, false, List, ◌++◌, length}
use Rattle.performer_kit.specs.declared.commands.RobotCommand.{RobotCommand}
use Rattle.robot_field.specs.declared.side.Side.TheVariants.{Above, Below, Left, Right}
use Rattle.robot_field.specs.Board.{Board, no_cells, has_cell, with_cell, has_wall, next_cell, robot, robot_end}
use Rattle.robot_field.specs.FieldText.{IsFieldText, IsFirstBad}

pub record GoesOn : Type 0 where
  pub replies : (b : Board) (first second : List RobotCommand) → robot b (first ++ second) ≡ robot b first ++ robot (robot_end b first) second
  pub ends : (b : Board) (first second : List RobotCommand) → robot_end b (first ++ second) ≡ robot_end (robot_end b first) second

-- ---- sets of cells

-- a cell of the largest field, 128 by 128
pub record IsCell (x y : ℕ) : Type 0 where
  pub left : 1 ≤ x
  pub right : x ≤ 128
  pub top : 1 ≤ y
  pub bottom : y ≤ 128

-- The empty set has no cell. A set with one more cell has that cell, and of every other cell what it had.
pub record AreSetsOfCells : Type 0 where
  pub empty : (x y : ℕ) → has_cell no_cells x y ≡ false
  pub added : (cells : List Bool) (x y : ℕ) → length cells ≡ 16384 → IsCell x y → has_cell (with_cell cells x y) x y ≡ true
  pub others : (cells : List Bool) (x y u v : ℕ)
      → IsCell x y → IsCell u v → ((u ≢ x) ⊎ (v ≢ y)) → has_cell (with_cell cells x y) u v ≡ has_cell cells u v

-- ---- walls

-- A wall between two cells of the field is at the right of the one and at the left of the other, and so below and above.
pub record WallsHaveTwoSides : Type 0 where
  pub across : (b : Board) → 1 ≤ b.x → b.x < b.width → has_wall (next_cell b Right) Left ≡ has_wall b Right
  pub down : (b : Board) → 1 ≤ b.y → b.y < b.height → has_wall (next_cell b Below) Above ≡ has_wall b Below

-- ---- field texts

-- Each list of lines is the text of exactly one field, or exactly one of its lines is the first that is wrong, and not both.
pub record EachTextIsAnswered : Type 0 where
  pub some : (lines : List (List ℕ)) → ((b : Board) × IsFieldText lines b) ⊎ ((n : ℕ) × IsFirstBad lines n)
  pub one_field : (lines : List (List ℕ)) (b c : Board) → IsFieldText lines b → IsFieldText lines c → b ≡ c
  pub one_first_bad : (lines : List (List ℕ)) (m n : ℕ) → IsFirstBad lines m → IsFirstBad lines n → m ≡ n
  pub apart : (lines : List (List ℕ)) (b : Board) (n : ℕ) → IsFieldText lines b → IsFirstBad lines n → ⊥
