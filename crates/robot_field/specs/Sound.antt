-- What is true of every field.
use Rattle.std.specs.Prelude.{◌≡◌, ◌≤◌, ℕ}

-- the size is from 1 to 128, the Robot is in a cell, and each set of cells has a truth value for each cell of the largest field
pub record IsInField (width height x y right_walls below_walls painted : ℕ) : Type 0 where
  pub x_least : 1 ≤ x
  pub x_most : x ≤ width
  pub y_least : 1 ≤ y
  pub y_most : y ≤ height
  pub width_most : width ≤ 128
  pub height_most : height ≤ 128
  pub right_len : right_walls ≡ 16384
  pub below_len : below_walls ≡ 16384
  pub painted_len : painted ≡ 16384
