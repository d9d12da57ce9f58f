-- The values of a call, popped from the last parameter to the first.
use Rattle.std.proofs.Common.{◌≡◌, ℕ, zero, suc, ◌≤◌, List, [], ◌∷◌, length, Option, Some, None, refl, sym, ap, ◌∙◌, arith}
use Rattle.std.specs.Prelude.{drop, ◌⊎◌, if◌then◌else◌, slice_get, true, ◌+◌, ◌<◌}
use Rattle.std.proofs.Common.{get_or}
use Rattle.std.proofs.lemmas.List.{drop_more}
use Rattle.std.proofs.Common.{⊎_elim}
use Rattle.stack_code.specs.declared.instruction.CallPlace.{CallPlace}
use Rattle.stack_code.specs.declared.unit.ParamSlot.{ParamSlot}
use Rattle.stack_code.specs.declared.unit.CodeUnit.{CodeUnit}
use Rattle.stack_code.specs.Instructions.{takes_value}
use Rattle.stack_code.specs.Operands.{Kinds, pop_values, then_pop, pop_some, value_kind}

no_places : (callee : CodeUnit) (params : List ParamSlot) (kinds : Kinds) → pop_values callee params [] kinds ≡ Some kinds
no_places callee [] kinds = refl
no_places callee (p ∷ params) kinds = refl

nothing_left : {A : Type 0} (n : ℕ) (xs : List A) → length xs ≤ n → drop n xs ≡ []
nothing_left zero [] le = refl
nothing_left zero (x ∷ xs) le = absurd (omega arith)
nothing_left (suc n) [] le = refl
nothing_left (suc n) (x ∷ xs) le = nothing_left n xs (omega arith)

pub values_end : (callee : CodeUnit) (n : ℕ) (params : List ParamSlot) (places : List CallPlace) (kinds : Kinds) → (length params ≤ n) ⊎ (length places ≤ n) → pop_values callee (drop n params) (drop n places) kinds ≡ Some kinds
values_end callee n params places kinds h =
    ⊎_elim
    (λ le. ap (λ ps. pop_values callee ps (drop n places) kinds) (nothing_left n params le))
    (λ le. ap (λ qs. pop_values callee (drop n params) qs kinds) (nothing_left n places le) ∙ no_places callee (drop n params) kinds)
    h

-- what is missing for the last parameters is missing for all
pub none_up : (callee : CodeUnit) (n : ℕ) (params : List ParamSlot) (places : List CallPlace) (kinds : Kinds) → pop_values callee (drop n params) (drop n places) kinds ≡ None → pop_values callee params places kinds ≡ None
none_up callee zero params places kinds e = e
none_up callee (suc n) [] places kinds e = e
none_up callee (suc n) (p ∷ params) [] kinds e = absurd (let z = sym (no_places callee (drop n params) kinds) ∙ e in cc)
none_up callee (suc n) (p ∷ params) (place ∷ places) kinds e =
    ap (λ o. then_pop o (λ left. if takes_value p.mode place then pop_some (value_kind (slice_get callee.slots p.slot)) left else Some left)) (none_up callee n params places kinds e)

step_of : CodeUnit → ParamSlot → CallPlace → Kinds → Option Kinds
step_of callee p place left = if takes_value p.mode place then pop_some (value_kind (slice_get callee.slots p.slot)) left else Some left

one_more : (callee : CodeUnit) (n : ℕ) (params : List ParamSlot) (places : List CallPlace) (kinds : Kinds) (p : ParamSlot) (q : CallPlace)
    → n < length params → n < length places → q ≡ get_or places n q
    → pop_values callee (drop n params) (drop n places) kinds ≡ then_pop (pop_values callee (drop (n + 1) params) (drop (n + 1) places) kinds) (step_of callee (get_or params n p) q)
unfolding step_of
one_more callee n params places kinds p q lt1 lt2 e =
    ap (λ ps. pop_values callee ps (drop n places) kinds) (drop_more params n p lt1)
    ∙ ap (λ qs. pop_values callee (get_or params n p ∷ drop (n + 1) params) qs kinds) (drop_more places n q lt2)
    ∙ ap (λ r. pop_values callee (get_or params n p ∷ drop (n + 1) params) (r ∷ drop (n + 1) places) kinds) (sym e)

-- the value of one parameter is missing
pub missing : (callee : CodeUnit) (n m : ℕ) (params : List ParamSlot) (places : List CallPlace) (kinds left : Kinds) (p : ParamSlot) (q : CallPlace)
    → m ≡ n + 1 → m ≤ length params → m ≤ length places → q ≡ get_or places n q
    → pop_values callee (drop m params) (drop m places) kinds ≡ Some left
    → takes_value (get_or params n p).mode q ≡ true
    → pop_some (value_kind (slice_get callee.slots (get_or params n p).slot)) left ≡ None
    → pop_values callee params places kinds ≡ None
unfolding step_of
missing callee n m params places kinds left p q is le1 le2 e before takes none =
    none_up callee n params places kinds (
    one_more callee n params places kinds p q (omega arith) (omega arith) e
    ∙ ap (λ k. then_pop (pop_values callee (drop k params) (drop k places) kinds) (step_of callee (get_or params n p) q)) (sym is)
    ∙ ap (λ o. then_pop o (step_of callee (get_or params n p) q)) before
    ∙ ap (λ b. if b then pop_some (value_kind (slice_get callee.slots (get_or params n p).slot)) left else Some left) takes
    ∙ none
    )
