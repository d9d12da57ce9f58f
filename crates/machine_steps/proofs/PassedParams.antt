-- The parameters of a call, one after the other.
use Rattle.std.proofs.Common.{◌≡◌, ℕ, suc, ◌+◌, ◌<◌, ◌≤◌, Bool, true, false, List, [], ◌∷◌, length, get_or, drop, drop-cons, Result, Ok, Err, refl, sym, ap, ◌∙◌, subst, arith, ⊎_elim, inl, inr}
use Rattle.std.specs.Prelude.{min, nat_le, ◌⊎◌, if◌then◌else◌}
use Rattle.std.proofs.lemmas.Bool.Decides.{nat_tests}
use Rattle.std.proofs.lemmas.Grind.{common_steps}
use Rattle.kumir_values.specs.declared.value.Value.{Value}
use Rattle.kumir_values.specs.declared.run_end.RunFault.{RunFault}
use Rattle.stack_code.specs.declared.instruction.CallPlace.{CallPlace}
use Rattle.stack_code.specs.declared.unit.ParamSlot.{ParamSlot}
use Rattle.stack_code.specs.CodeState.{Slots, rest}
use Rattle.stack_code.specs.Instructions.{takes_value, values_taken, table_of, Begun, and_then, fills_slot, fills_slots}
use Rattle.machine_steps.specs.declared.running.Running.{Running}
use Rattle.machine_steps.specs.States.{slots_of}
use Rattle.machine_steps.specs.Calls.{Receives}

pub after_one : (at : ℕ) → suc at ≡ at + 1
after_one at = omega arith

-- the first of what is left, and the rest
pub front : {T : Type 0} (xs : List T) (at : ℕ) (d : T) → at < length xs → drop at xs ≡ get_or xs at d ∷ drop (at + 1) xs
front xs at d h = drop-cons xs at d h ∙ ap (λ j. get_or xs at d ∷ drop j xs) (after_one at)

pub one_ends : (a b at : ℕ) → min a b ≤ at → (a ≤ at) ⊎ (b ≤ at)
one_ends a b at h = elim (nat_le a at) as (λ t. nat_le a at ≡ t → (a ≤ at) ⊎ (b ≤ at)) [
  | true ↦ λ e. inl (grind (arith, nat_tests, e))
  | false ↦ λ e. let more : at < a = grind (arith, nat_tests, e) in inr (omega (arith, h, more))
] refl

pub nothing_left : {T : Type 0} (xs : List T) (at : ℕ) → length xs ≤ at → drop at xs ≡ []
nothing_left xs at h = grind (arith, common_steps, h)

-- ---- operands

taken_front : (ps : List ParamSlot) (pls : List CallPlace) (at : ℕ) (d : ParamSlot) (e : CallPlace) → at < length ps → at < length pls
    → values_taken (drop at ps) (drop at pls) ≡ (if takes_value (get_or ps at d).mode (get_or pls at e) then 1 else 0) + values_taken (drop (at + 1) ps) (drop (at + 1) pls)
taken_front ps pls at d e h k = ap (λ l. values_taken l (drop at pls)) (front ps at d h) ∙ ap (values_taken (get_or ps at d ∷ drop (at + 1) ps)) (front pls at e k)

no_places : (ps : List ParamSlot) → values_taken ps [] ≡ 0
no_places [] = refl
no_places (p ∷ ps) = refl

taken_end : (ps : List ParamSlot) (pls : List CallPlace) (at : ℕ) → min (length ps) (length pls) ≤ at → values_taken (drop at ps) (drop at pls) ≡ 0
taken_end ps pls at h = ⊎_elim
    (λ w. ap (λ l. values_taken l (drop at pls)) (nothing_left ps at w))
    (λ w. ap (values_taken (drop at ps)) (nothing_left pls at w) ∙ no_places (drop at ps))
    (one_ends (length ps) (length pls) at h)

pub at_most_one : (b : Bool) (n : ℕ) → n ≡ (if b then 1 else 0) → n ≤ 1
at_most_one true n e = omega (arith, e)
at_most_one false n e = omega (arith, e)

pub counted_one : (ps : List ParamSlot) (pls : List CallPlace) (at count one all : ℕ) (d : ParamSlot) (pl e : CallPlace) → at < min (length ps) (length pls) → pl ≡ get_or pls at e
    → one ≡ (if takes_value (get_or ps at d).mode pl then 1 else 0) → count + values_taken (drop at ps) (drop at pls) ≡ all
    → (count + one) + values_taken (drop (at + 1) ps) (drop (at + 1) pls) ≡ all
counted_one ps pls at count one all d pl e h is o i =
    let a : at < length ps = omega (arith, h) in
    let b : at < length pls = omega (arith, h) in
    let f = taken_front ps pls at d e a b in
    let o1 : one ≡ (if takes_value (get_or ps at d).mode (get_or pls at e) then 1 else 0) = o ∙ ap (λ x. if takes_value (get_or ps at d).mode x then 1 else 0) is in
    let g : values_taken (drop at ps) (drop at pls) ≡ one + values_taken (drop (at + 1) ps) (drop (at + 1) pls) = f ∙ ap (λ n. n + values_taken (drop (at + 1) ps) (drop (at + 1) pls)) (sym o1) in
    omega (arith, g, i)

pub counted_all : (ps : List ParamSlot) (pls : List CallPlace) (at count all : ℕ) → min (length ps) (length pls) ≤ at → count + values_taken (drop at ps) (drop at pls) ≡ all → count ≡ all
counted_all ps pls at count all h i = let e = taken_end ps pls at h in omega (arith, e, i)

-- ---- what is received

pub received_front : (room : ℕ) (ps : List ParamSlot) (pls : List CallPlace) (at : ℕ) (d : ParamSlot) (e : CallPlace) (values : List Value) (slots : Slots) (g : Begun) → at < length ps → at < length pls
    → fills_slots room (drop at ps) (drop at pls) values slots g
    ≡ and_then (fills_slot room (get_or ps at d) (table_of (get_or pls at e)) (takes_value (get_or ps at d).mode (get_or pls at e)) values slots g)
    (λ g1. fills_slots room (drop (at + 1) ps) (drop (at + 1) pls) (if takes_value (get_or ps at d).mode (get_or pls at e) then rest values else values) slots g1)
received_front room ps pls at d e values slots g h k =
    ap (λ l. fills_slots room l (drop at pls) values slots g) (front ps at d h)
    ∙ ap (λ l. fills_slots room (get_or ps at d ∷ drop (at + 1) ps) l values slots g) (front pls at e k)

one_ok : (found : Result Begun RunFault) (u : Unit {0}) (new : Running) → Receives found (Ok u) new → found ≡ Ok (slots_of new.slots, new.used)
one_ok (Ok g) u new h = ap Ok h
one_ok (Err f) u new h = absurd h

one_err : (found : Result Begun RunFault) (f : RunFault) (new : Running) → Receives found (Err f) new → found ≡ Err f
one_err (Ok g) f new h = absurd h
one_err (Err g) f new h = ap Err (sym h)

-- one more was received
pub received_one : (room : ℕ) (ps : List ParamSlot) (pls : List CallPlace) (at : ℕ) (d : ParamSlot) (e : CallPlace) (values left : List Value) (slots : Slots) (g : Begun) (new : Running) (u : Unit {0}) (all : Result Begun RunFault)
    → at < min (length ps) (length pls)
    → Receives (fills_slot room (get_or ps at d) (table_of (get_or pls at e)) (takes_value (get_or ps at d).mode (get_or pls at e)) values slots g) (Ok u) new
    → left ≡ (if takes_value (get_or ps at d).mode (get_or pls at e) then rest values else values)
    → fills_slots room (drop at ps) (drop at pls) values slots g ≡ all
    → fills_slots room (drop (at + 1) ps) (drop (at + 1) pls) left slots (slots_of new.slots, new.used) ≡ all
received_one room ps pls at d e values left slots g new u all m r l i =
    let h : at < length ps = omega (arith, m) in
    let k : at < length pls = omega (arith, m) in
    ap (λ vs. fills_slots room (drop (at + 1) ps) (drop (at + 1) pls) vs slots (slots_of new.slots, new.used)) l
    ∙ sym (ap (λ o. and_then o (λ g1. fills_slots room (drop (at + 1) ps) (drop (at + 1) pls) (if takes_value (get_or ps at d).mode (get_or pls at e) then rest values else values) slots g1)) (one_ok _ u new r))
    ∙ sym (received_front room ps pls at d e values slots g h k) ∙ i

-- one has a fault
pub received_fault : (room : ℕ) (ps : List ParamSlot) (pls : List CallPlace) (at : ℕ) (d : ParamSlot) (e : CallPlace) (values : List Value) (slots : Slots) (g : Begun) (new : Running) (f : RunFault) (all : Result Begun RunFault)
    → at < min (length ps) (length pls)
    → Receives (fills_slot room (get_or ps at d) (table_of (get_or pls at e)) (takes_value (get_or ps at d).mode (get_or pls at e)) values slots g) (Err f) new
    → fills_slots room (drop at ps) (drop at pls) values slots g ≡ all → Receives all (Err f) new
received_fault room ps pls at d e values slots g new f all m r i =
    let h : at < length ps = omega (arith, m) in
    let k : at < length pls = omega (arith, m) in
    subst (λ a. Receives a (Err f) new)
    (sym (ap (λ o. and_then o (λ g1. fills_slots room (drop (at + 1) ps) (drop (at + 1) pls) (if takes_value (get_or ps at d).mode (get_or pls at e) then rest values else values) slots g1)) (one_err _ f new r))
    ∙ sym (received_front room ps pls at d e values slots g h k) ∙ i) refl

no_more_places : (room : ℕ) (ps : List ParamSlot) (values : List Value) (slots : Slots) (g : Begun) → fills_slots room ps [] values slots g ≡ Ok g
no_more_places room [] values slots g = refl
no_more_places room (p ∷ ps) values slots g = refl

end_at_params : (room : ℕ) (ps : List ParamSlot) (pls : List CallPlace) (at : ℕ) (values : List Value) (slots : Slots) (g : Begun) → length ps ≤ at → fills_slots room (drop at ps) (drop at pls) values slots g ≡ Ok g
end_at_params room ps pls at values slots g h = ap (λ l. fills_slots room l (drop at pls) values slots g) (nothing_left ps at h)

end_at_places : (room : ℕ) (ps : List ParamSlot) (pls : List CallPlace) (at : ℕ) (values : List Value) (slots : Slots) (g : Begun) → length pls ≤ at → fills_slots room (drop at ps) (drop at pls) values slots g ≡ Ok g
end_at_places room ps pls at values slots g h = ap (λ l. fills_slots room (drop at ps) l values slots g) (nothing_left pls at h) ∙ no_more_places room (drop at ps) values slots g

pub received_end : (room : ℕ) (ps : List ParamSlot) (pls : List CallPlace) (at : ℕ) (values : List Value) (slots : Slots) (new : Running) (u : Unit {0}) (all : Result Begun RunFault)
    → min (length ps) (length pls) ≤ at → fills_slots room (drop at ps) (drop at pls) values slots (slots_of new.slots, new.used) ≡ all → Receives all (Ok u) new
received_end room ps pls at values slots new u all h i =
    let g : Begun = (slots_of new.slots, new.used) in
    let over : fills_slots room (drop at ps) (drop at pls) values slots g ≡ Ok g = ⊎_elim (end_at_params room ps pls at values slots g) (end_at_places room ps pls at values slots g) (one_ends (length ps) (length pls) at h) in
    subst (λ a. Receives a (Ok u) new) (sym over ∙ i) refl
