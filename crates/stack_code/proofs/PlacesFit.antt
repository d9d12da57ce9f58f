-- Places of a call that are as many as the parameters.
use Rattle.std.proofs.Common.{◌≡◌, ◌≢◌, ℕ, suc, ◌≤◌, Bool, true, false, List, [], ◌∷◌, length, refl, ap, ap₂, ◌∙◌}
use Rattle.std.specs.Prelude.{drop, ◌&&◌, slice_get}
use Rattle.std.proofs.lemmas.List.{drop_all}
use Rattle.stack_code.specs.declared.instruction.CallPlace.{CallPlace}
use Rattle.stack_code.specs.declared.unit.ParamSlot.{ParamSlot}
use Rattle.stack_code.specs.declared.unit.Shape.{Shape}
use Rattle.stack_code.specs.Validity.{places_fit, place_fits}

and_false : (b : Bool) → (b && false) ≡ false
and_false true = refl
and_false false = refl

pub unequal : (formal : List Shape) (params : List ParamSlot) (slots : List Shape) (places : List CallPlace) → length params ≢ length places → places_fit formal params slots places ≡ false
unequal formal [] slots [] ne = absurd (ne refl)
unequal formal [] slots (q ∷ places) ne = refl
unequal formal (p ∷ params) slots [] ne = refl
unequal formal (p ∷ params) slots (q ∷ places) ne =
    ap (λ b. place_fits p.mode (slice_get formal p.slot) slots q && b) (unequal formal params slots places (λ e. ne (ap suc e))) ∙ and_false (place_fits p.mode (slice_get formal p.slot) slots q)

pub at_end : (formal : List Shape) (params : List ParamSlot) (slots : List Shape) (places : List CallPlace) (n : ℕ) → length params ≤ n → length places ≤ n → places_fit formal (drop n params) slots (drop n places) ≡ true
at_end formal params slots places n a b = ap₂ (λ ps qs. places_fit formal ps slots qs) (drop_all n params a) (drop_all n places b)
