-- Sets of cells, and walls that are seen from both of their cells.
use Rattle.std.proofs.Common.{◌≡◌, ◌≢◌, ◌≤◌, ◌<◌, ◌⊎◌, inl, inr, ℕ, ◌+◌, ◌-◌, ◌==◌, Bool, true, false, List, length, replicate, get_or, zero, suc, arith, refl}
use Rattle.std.proofs.lemmas.List.{get_or-set_same, get_or-set_other}
use Rattle.std.proofs.lemmas.Bool.Decides.{nat_tests}
use Rattle.robot_field.specs.declared.side.Side.TheVariants.{Above, Below, Left, Right}
use Rattle.robot_field.specs.Board.{Board, place_of, no_cells, has_cell, with_cell, has_wall, next_cell}
use Rattle.robot_field.specs.Laws.{IsCell, AreSetsOfCells, WallsHaveTwoSides}

none_in : (n i : ℕ) → get_or (replicate n false) i false ≡ false
none_in zero i = refl
none_in (suc n) zero = refl
none_in (suc n) (suc i) = none_in n i

empty : (x y : ℕ) → has_cell no_cells x y ≡ false
unfolding no_cells
empty x y = none_in 16384 (place_of x y)

within : (x y : ℕ) → IsCell x y → place_of x y < 16384
within x y c = omega (arith, c.left, c.right, c.top, c.bottom)

added : (cells : List Bool) (x y : ℕ) → length cells ≡ 16384 → IsCell x y → has_cell (with_cell cells x y) x y ≡ true
added cells x y long c = get_or-set_same cells (place_of x y) true false (omega (arith, long, within x y c))

apart : (x y u v : ℕ) → IsCell x y → IsCell u v → ((u ≢ x) ⊎ (v ≢ y)) → place_of u v ≢ place_of x y
apart x y u v c d (inl other) same = other (omega (arith, same, c.left, c.right, c.top, c.bottom, d.left, d.right, d.top, d.bottom))
apart x y u v c d (inr other) same = other (omega (arith, same, c.left, c.right, c.top, c.bottom, d.left, d.right, d.top, d.bottom))

others : (cells : List Bool) (x y u v : ℕ) → IsCell x y → IsCell u v → ((u ≢ x) ⊎ (v ≢ y)) → has_cell (with_cell cells x y) u v ≡ has_cell cells u v
others cells x y u v c d other = get_or-set_other cells (place_of x y) (place_of u v) true false (apart x y u v c d other)

pub sets_of_cells : AreSetsOfCells
sets_of_cells = record { empty = empty; added = added; others = others }

not_first : (n : ℕ) → 1 ≤ n → (n + 1 == 1) ≡ false
not_first n least = grind (arith, nat_tests, least)

not_last : (n most : ℕ) → n < most → (n == most) ≡ false
not_last n most less = grind (arith, nat_tests, less)

back : (n : ℕ) → n + 1 - 1 ≡ n
back n = omega arith

across : (b : Board) → 1 ≤ b.x → b.x < b.width → has_wall (next_cell b Right) Left ≡ has_wall b Right
across b least within = rw (not_first b.x least, not_last b.x b.width within, back b.x) refl

down : (b : Board) → 1 ≤ b.y → b.y < b.height → has_wall (next_cell b Below) Above ≡ has_wall b Below
down b least within = rw (not_first b.y least, not_last b.y b.height within, back b.y) refl

pub two_sides : WallsHaveTwoSides
two_sides = record { across = across; down = down }
