-- Whether the prelude of a text makes a performer known.
use Rattle.std.proofs.Common.{◌≡◌, ℕ, Bool, true, false, List, [], ◌∷◌, slice_get, Some, None, refl, sym, ap, ◌∙◌}
use Rattle.std.specs.Prelude.{◌||◌}
use Rattle.km_base.specs.declared.performers.Performers.{Performers}
use Rattle.kumir_tree.specs.declared.unit.UnitRead.{UnitRead}
use Rattle.kumir_tree.specs.declared.unit.PlacedUnit.{PlacedUnit}
use Rattle.kumir_tree.specs.Units.{units_of, placed_of}
use Rattle.type_check.specs.Placed.{reads_of, units_in}
use Rattle.type_check.proofs.FirstUnit.{units_seen}
use Rattle.incr_analysis.specs.Full.{knows_performer}

known_first : (units : List PlacedUnit) (u : PlacedUnit) → slice_get units 0 ≡ Some u → knows_performer (units_of units) ≡ ((placed_of u).1.performers.robot || (placed_of u).1.performers.pen)
known_first [] u e = cc
known_first (p ∷ units) u e = let same : p ≡ u = cc in ap (λ w. (placed_of w).1.performers.robot || (placed_of w).1.performers.pen) same

none_first : (units : List PlacedUnit) → slice_get units 0 ≡ None → knows_performer (units_of units) ≡ false
none_first [] e = refl
none_first (p ∷ units) e = cc

is_known : (units : List PlacedUnit) (u : PlacedUnit) (known : Performers) → Some u ≡ slice_get units 0 → known ≡ (placed_of u).1.performers → (known.robot || known.pen) ≡ knows_performer (units_of units)
is_known units u known at e = ap (λ p. p.robot || p.pen) e ∙ sym (known_first units u (sym at))

either_true : (a b : Bool) → a ≡ true → a ≡ (a || b)
either_true true b e = refl
either_true false b e = cc

either_false : (a b : Bool) → a ≡ false → b ≡ (a || b)
either_false true b e = cc
either_false false b e = refl

pub knows_robot : (units : List PlacedUnit) (u : PlacedUnit) (known : Performers) → known.robot ≡ true → Some u ≡ slice_get units 0 → known ≡ (placed_of u).1.performers → known.robot ≡ knows_performer (units_of units)
knows_robot units u known does at e = either_true known.robot known.pen does ∙ is_known units u known at e

pub knows_pen : (units : List PlacedUnit) (u : PlacedUnit) (known : Performers) → known.robot ≡ false → Some u ≡ slice_get units 0 → known ≡ (placed_of u).1.performers → known.pen ≡ knows_performer (units_of units)
knows_pen units u known lacks at e = either_false known.robot known.pen lacks ∙ is_known units u known at e

pub no_prelude : (units : List PlacedUnit) → None ≡ slice_get units 0 → false ≡ knows_performer (units_of units)
no_prelude units at = sym (none_first units (sym at))

pub known_seen : (seen : List (ℕ × UnitRead)) (units : List PlacedUnit) (known : Bool) → seen ≡ reads_of units → known ≡ knows_performer (units_of units) → known ≡ knows_performer (units_in seen)
known_seen seen units known is e = e ∙ ap knows_performer (sym (units_seen units)) ∙ sym (ap (λ s. knows_performer (units_in s)) is)
