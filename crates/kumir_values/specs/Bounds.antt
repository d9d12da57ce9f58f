-- Bounds of tables: the lists of indexes that lie within them, and where the element of each stands.
use Rattle.std.specs.Prelude.{ℕ, ◌+◌, ◌*◌, Bool, true, false, ◌&&◌, List, [], ◌∷◌, ℤ, pos, negsuc, ◌+ℤ◌, ◌-ℤ◌, int_le}
use Rattle.std.specs.List.{list_all}
use Rattle.kumir_values.specs.declared.bounds.Bound.{Bound}

-- a number, or 0 where it is negative
abbrev pub natural : ℤ → ℕ
natural (pos n) = n
natural (negsuc n) = 0

-- how many whole numbers lie from the lower end to the upper one
abbrev pub width : Bound → ℕ
width b = natural (b.high -ℤ b.low +ℤ pos 1)

abbrev pub is_ordered : Bound → Bool
is_ordered b = int_le b.low b.high

-- no upper end is below its lower one
abbrev pub all_ordered : List Bound → Bool
all_ordered bs = list_all is_ordered bs

-- how many lists of indexes lie within the bounds
abbrev pub elements : List Bound → ℕ
elements [] = 1
elements (b ∷ bs) = width b * elements bs

-- a list of indexes has as many as there are bounds, and each lies within its bound
abbrev pub inside : List Bound → List ℤ → Bool
inside [] [] = true
inside [] (i ∷ is) = false
inside (b ∷ bs) [] = false
inside (b ∷ bs) (i ∷ is) = int_le b.low i && int_le i b.high && inside bs is

-- how many lists of indexes stand before this one, where the last index runs fastest
abbrev pub place : List Bound → List ℤ → ℕ
place [] is = 0
place (b ∷ bs) [] = 0
place (b ∷ bs) (i ∷ is) = natural (i -ℤ b.low) * elements bs + place bs is
