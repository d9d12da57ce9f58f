-- The Robot's field and its replies to a list of commands. docs/LANGUAGE.md, "Performers".
-- Cells are counted from 1, from the left and from the top.
use Rattle.std.specs.Prelude.{ℕ, ◌+◌, ◌-◌, ◌*◌, ◌==◌, Bool, true, false, not, ◌||◌, List, [], ◌∷◌, slice_index_or, slice_set, replicate, if◌then◌else◌}
use Rattle.performer_kit.specs.declared.commands.RobotCommand.{RobotCommand}
use Rattle.performer_kit.specs.declared.commands.RobotCommand.TheVariants.{Up, Down, Left, Right, Paint, AboveFree, BelowFree, LeftFree, RightFree, AboveWall, BelowWall, LeftWall, RightWall, CellPainted, CellClean}
use Rattle.performer_kit.specs.declared.commands.Reply.{Reply}
use Rattle.performer_kit.specs.declared.commands.Reply.TheVariants.{Done, Yes, No, Wall}
use Rattle.robot_field.specs.declared.side.Side.{Side}
use Rattle.robot_field.specs.declared.side.Side.TheVariants as side

-- a size, the Robot's place, the walls and the painted cells; a set of cells is the list of its truth values, row by
-- row of the largest field: a wall to the right of a cell, a wall below a cell, a painted cell
pub record Board : Type 0 where
  pub width : ℕ
  pub height : ℕ
  pub x : ℕ
  pub y : ℕ
  pub right_walls : List Bool
  pub below_walls : List Bool
  pub painted_cells : List Bool

-- the place of a cell in such a list, 128 cells a row
abbrev pub place_of : ℕ → ℕ → ℕ
place_of x y = 128 * (y - 1) + (x - 1)

abbrev pub has_cell : List Bool → ℕ → ℕ → Bool
has_cell cells x y = slice_index_or cells (place_of x y) false

abbrev pub with_cell : List Bool → ℕ → ℕ → List Bool
with_cell cells x y = slice_set cells (place_of x y) true

-- the empty set of cells
unfoldable pub no_cells : List Bool
no_cells = replicate 16384 false

-- 10 by 10, the Robot at 1, 1, no inner walls, nothing painted
abbrev pub usual : Board
usual = record {
  width = 10;
  height = 10;
  x = 1;
  y = 1;
  right_walls = no_cells;
  below_walls = no_cells;
  painted_cells = no_cells;
}

-- a wall at a side of the Robot's cell; the border is wall, and a wall is seen from both of its cells
abbrev pub has_wall : Board → Side → Bool
has_wall b side.Above = (b.y == 1) || has_cell b.below_walls b.x (b.y - 1)
has_wall b side.Below = (b.y == b.height) || has_cell b.below_walls b.x b.y
has_wall b side.Left = (b.x == 1) || has_cell b.right_walls (b.x - 1) b.y
has_wall b side.Right = (b.x == b.width) || has_cell b.right_walls b.x b.y

abbrev pub next_cell : Board → Side → Board
next_cell b side.Above = record b { y = b.y - 1 }
next_cell b side.Below = record b { y = b.y + 1 }
next_cell b side.Left = record b { x = b.x - 1 }
next_cell b side.Right = record b { x = b.x + 1 }

-- a step to a side, and its reply: at a wall the Robot stays
abbrev pub stepped : Board → Side → Board
stepped b side = if has_wall b side then b else next_cell b side

abbrev pub step_reply : Board → Side → Reply
step_reply b side = if has_wall b side then Wall else Done

abbrev pub painted : Board → Board
painted b = record b { painted_cells = with_cell b.painted_cells b.x b.y }

abbrev pub is_painted : Board → Bool
is_painted b = has_cell b.painted_cells b.x b.y

abbrev pub answer : Bool → Reply
answer holds = if holds then Yes else No

unfoldable pub board_after : Board → RobotCommand → Board
board_after b Up = stepped b side.Above
board_after b Down = stepped b side.Below
board_after b Left = stepped b side.Left
board_after b Right = stepped b side.Right
board_after b Paint = painted b
board_after b AboveFree = b
board_after b BelowFree = b
board_after b LeftFree = b
board_after b RightFree = b
board_after b AboveWall = b
board_after b BelowWall = b
board_after b LeftWall = b
board_after b RightWall = b
board_after b CellPainted = b
board_after b CellClean = b

unfoldable pub reply_to : Board → RobotCommand → Reply
reply_to b Up = step_reply b side.Above
reply_to b Down = step_reply b side.Below
reply_to b Left = step_reply b side.Left
reply_to b Right = step_reply b side.Right
reply_to b Paint = Done
reply_to b AboveFree = answer (not (has_wall b side.Above))
reply_to b BelowFree = answer (not (has_wall b side.Below))
reply_to b LeftFree = answer (not (has_wall b side.Left))
reply_to b RightFree = answer (not (has_wall b side.Right))
reply_to b AboveWall = answer (has_wall b side.Above)
reply_to b BelowWall = answer (has_wall b side.Below)
reply_to b LeftWall = answer (has_wall b side.Left)
reply_to b RightWall = answer (has_wall b side.Right)
reply_to b CellPainted = answer (is_painted b)
reply_to b CellClean = answer (not (is_painted b))

-- the reply to each command in turn
abbrev pub robot : Board → List RobotCommand → List Reply
robot b [] = []
robot b (command ∷ commands) = reply_to b command ∷ robot (board_after b command) commands

-- the field after all of them
abbrev pub robot_end : Board → List RobotCommand → Board
robot_end b [] = b
robot_end b (command ∷ commands) = robot_end (board_after b command) commands
