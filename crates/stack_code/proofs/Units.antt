-- Valid code from its units and its entry.
use Rattle.std.proofs.Common.{◌≡◌, ℕ, Bool, true, false, List, Option, Some, slice_get, sym, ap, ◌∙◌, subst}
use Rattle.std.specs.Bool.{Decides}
use Rattle.stack_code.specs.declared.unit.CodeUnit.{CodeUnit}
use Rattle.stack_code.specs.Validity.{IsUnit, IsValid, entry_fits}

abbrev pub AllUnits : List CodeUnit → Type 0
AllUnits units = (k : ℕ) (u : CodeUnit) → slice_get units k ≡ Some u → IsUnit units u

pub decides_valid : (units xs ys : List CodeUnit) (entry : Option ℕ) (b : Bool) → xs ≡ units → ys ≡ units → AllUnits xs → b ≡ entry_fits ys entry → Decides b (IsValid units entry)
decides_valid units xs ys entry b e1 e2 all is = (
  λ t. record { each = subst AllUnits e1 all; begin = sym there ∙ t },
  λ h. there ∙ h.begin,
)
  where
    there : b ≡ entry_fits units entry
    there = is ∙ ap (λ zs. entry_fits zs entry) e2

pub decides_invalid : (units xs : List CodeUnit) (entry : Option ℕ) (r : Bool) → xs ≡ units → (AllUnits xs → r ≡ true) → r ≡ false → Decides false (IsValid units entry)
decides_invalid units xs entry r e1 all no_units = (λ t. absurd (let z = t in cc), λ h. sym no_units ∙ all (subst AllUnits (sym e1) h.each))
