-- The unit behind the prelude.
use Rattle.std.proofs.Common.{◌≡◌, ℕ, List, [], ◌∷◌, slice_get, Option, Some, None, refl, ap, sym, ◌∙◌}
use Rattle.std.specs.Borrow.{Bor}
use Rattle.type_rules.specs.Headers.{some_head_behind}
use Rattle.kumir_tree.specs.Part.{Head}
use Rattle.kumir_tree.specs.declared.header.Header.{Header}
use Rattle.kumir_tree.specs.declared.unit.UnitRead.{UnitRead}
use Rattle.kumir_tree.specs.Units.{units_of, placed_of}
use Rattle.kumir_tree.specs.declared.unit.PlacedUnit.{PlacedUnit}
use Rattle.type_check.specs.Placed.{reads_of, units_in}
use Rattle.type_check.specs.Margin.{first_head}

pub units_seen : (units : List PlacedUnit) → units_in (reads_of units) ≡ units_of units
units_seen [] = refl
units_seen (u ∷ units) = ap (λ l. placed_of u ∷ l) (units_seen units)

first_unit : (units : List PlacedUnit) (u : PlacedUnit) → slice_get units 1 ≡ Some u → first_head (units_of units) ≡ (placed_of u).1.head
first_unit [] u e = cc
first_unit (p ∷ []) u e = cc
first_unit (p ∷ (v ∷ more)) u e = let same : v ≡ u = cc in ap (λ w. (placed_of w).1.head) same

no_unit : (units : List PlacedUnit) → slice_get units 1 ≡ None → first_head (units_of units) ≡ None
no_unit [] e = refl
no_unit (p ∷ []) e = refl
no_unit (p ∷ (v ∷ more)) e = cc

pub first_found : (units : List PlacedUnit) (u : PlacedUnit) (r : Option (Bor Header)) → Some u ≡ slice_get units 1 → some_head_behind r ≡ (placed_of u).1.head → some_head_behind r ≡ first_head (units_of units)
first_found units u r at e = e ∙ sym (first_unit units u (sym at))

pub no_first : (units : List PlacedUnit) → None ≡ slice_get units 1 → None ≡ first_head (units_of units)
no_first units at = sym (no_unit units (sym at))

pub first_seen : (seen : List (ℕ × UnitRead)) (units : List PlacedUnit) (first : Option Head) → seen ≡ reads_of units → first ≡ first_head (units_of units) → first ≡ first_head (units_in seen)
first_seen seen units first is e = e ∙ ap first_head (sym (units_seen units)) ∙ sym (ap (λ s. first_head (units_in s)) is)
