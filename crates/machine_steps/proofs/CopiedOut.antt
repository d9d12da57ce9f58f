-- Copying out, one parameter after the other.
use Rattle.std.proofs.Common.{◌≡◌, ◌≢◌, ℕ, ◌+◌, ◌-◌, ◌<◌, ◌≤◌, Bool, true, false, List, [], ◌∷◌, length, get_or, map, take, drop, Option, refl, sym, ap, ◌∙◌, arith, ⊎_elim}
use Rattle.std.specs.Prelude.{min, nat_eq, ◌||◌}
use Rattle.std.specs.List.{AllByRecursion, list_any}
use Rattle.std.proofs.lemmas.Bool.Decides.{nat_tests}
use Rattle.std.proofs.lemmas.Grind.{common_steps}
use Rattle.std.proofs.lemmas.List.{take_all}
use Rattle.stack_code.specs.declared.instruction.CallPlace.{CallPlace}
use Rattle.stack_code.specs.declared.unit.ParamSlot.{ParamSlot}
use Rattle.kumir_values.specs.declared.value.Value.{Value}
use Rattle.kumir_meaning.specs.Store.{Cell, value_in, with_element}
use Rattle.stack_code.specs.declared.instruction.CallPlace.TheVariants as place
use Rattle.stack_code.specs.CodeState.{Slots, Plain, with_slot, cell_in}
use Rattle.stack_code.specs.Instructions.{index_in, copied, copied_to, copied_to_places}
use Rattle.machine_steps.proofs.PassedParams.{front, nothing_left, one_ends}

same_out : (ps : List ParamSlot) (pls : List CallPlace) (g h s : Slots) → AllByRecursion (λ p. g p.slot ≡ h p.slot) ps → copied_to_places ps pls g s ≡ copied_to_places ps pls h s
same_out [] pls g h s all = refl
same_out (p ∷ ps) [] g h s all = refl
same_out (p ∷ ps) (pl ∷ pls) g h s all =
    ap (λ c. copied_to_places ps pls g (copied_to p.mode pl (cell_in c) s)) all.0 ∙ same_out ps pls g h (copied_to p.mode pl (cell_in (h p.slot)) s) all.1

either_false : (a b : Bool) → (a || b) ≡ false → (a ≡ false) × (b ≡ false)
either_false true b e = absurd (let wrong : ⊥ = cc in wrong)
either_false false b e = (refl, e)

differs : (a b : ℕ) → nat_eq a b ≡ false → a ≢ b
differs a b e = grind (arith, nat_tests, e)

not_needed : (qs : List ParamSlot) (x : ℕ) (g h : Slots) → list_any (λ q. nat_eq q.slot x) qs ≡ false → ((y : ℕ) → y ≢ x → h y ≡ g y) → AllByRecursion (λ q. h q.slot ≡ g q.slot) qs
not_needed [] x g h e other = tt
not_needed (q ∷ qs) x g h e other = let w = either_false (nat_eq q.slot x) _ e in (other q.slot (differs q.slot x w.0), not_needed qs x g h w.1 other)

all_same : (qs : List ParamSlot) (g h : Slots) → h ≡ g → AllByRecursion (λ q. h q.slot ≡ g q.slot) qs
all_same [] g h e = tt
all_same (q ∷ qs) g h e = (ap (λ f. f q.slot) e, all_same qs g h e)

agree : (qs : List ParamSlot) (x : ℕ) (g h : Slots) (needed : Bool) → needed ≡ list_any (λ q. nat_eq q.slot x) qs → (needed ≡ true → h ≡ g) → ((y : ℕ) → y ≢ x → h y ≡ g y) → AllByRecursion (λ q. h q.slot ≡ g q.slot) qs
agree qs x g h true is kept other = all_same qs g h (kept refl)
agree qs x g h false is kept other = not_needed qs x g h (sym is) other

pub whole : {T : Type 0} (xs : List T) (n : ℕ) → take (length xs - n) (drop n xs) ≡ drop n xs
whole xs n = let few : length (drop n xs) ≤ length xs - n = grind (arith, common_steps) in take_all (length xs - n) (drop n xs) few

-- one more was copied
pub copied_one : (ps : List ParamSlot) (pls : List CallPlace) (at : ℕ) (d : ParamSlot) (pl e : CallPlace) (g h slots new all : Slots) (needed : Bool) → at < min (length ps) (length pls) → pl ≡ get_or pls at e
    → needed ≡ list_any (λ q. nat_eq q.slot (get_or ps at d).slot) (take (length ps - (at + 1)) (drop (at + 1) ps))
    → (needed ≡ true → h ≡ g) → ((y : ℕ) → y ≢ (get_or ps at d).slot → h y ≡ g y)
    → new ≡ copied_to (get_or ps at d).mode pl (cell_in (g (get_or ps at d).slot)) slots
    → copied_to_places (drop at ps) (drop at pls) g slots ≡ all → copied_to_places (drop (at + 1) ps) (drop (at + 1) pls) h new ≡ all
copied_one ps pls at d pl e g h slots new all needed m p is kept other c i =
    let a : at < length ps = omega (arith, m) in
    let b : at < length pls = omega (arith, m) in
    let any = is ∙ ap (list_any (λ q. nat_eq q.slot (get_or ps at d).slot)) (whole ps (at + 1)) in
    same_out (drop (at + 1) ps) (drop (at + 1) pls) h g new (agree (drop (at + 1) ps) (get_or ps at d).slot g h needed any kept other)
    ∙ ap (copied_to_places (drop (at + 1) ps) (drop (at + 1) pls) g) (c ∙ ap (λ x. copied_to (get_or ps at d).mode x (cell_in (g (get_or ps at d).slot)) slots) p)
    ∙ sym (ap (λ l. copied_to_places l (drop at pls) g slots) (front ps at d a) ∙ ap (λ l. copied_to_places (get_or ps at d ∷ drop (at + 1) ps) l g slots) (front pls at e b)) ∙ i

no_more_places : (ps : List ParamSlot) (g s : Slots) → copied_to_places ps [] g s ≡ s
no_more_places [] g s = refl
no_more_places (p ∷ ps) g s = refl

pub copied_end : (ps : List ParamSlot) (pls : List CallPlace) (at : ℕ) (g s all : Slots) → min (length ps) (length pls) ≤ at → copied_to_places (drop at ps) (drop at pls) g s ≡ all → s ≡ all
copied_end ps pls at g s all h i = ⊎_elim
    (λ w. sym (ap (λ l. copied_to_places l (drop at pls) g s) (nothing_left ps at w)) ∙ i)
    (λ w. sym (ap (λ l. copied_to_places (drop at ps) l g s) (nothing_left pls at w) ∙ no_more_places (drop at ps) g s) ∙ i)
    (one_ends (length ps) (length pls) at h)

-- an element, with its indexes in hidden slots
pub element_copied : (new slots : Slots) (own : ℕ) (is at : List ℕ) (v : Option Value) (pl : CallPlace) (c : Cell)
    → new ≡ with_slot slots own (Plain (with_element (cell_in (slots own)) (map (λ h. index_in (cell_in (slots h))) is) v)) → is ≡ at → v ≡ value_in c → pl ≡ place.Element own at → new ≡ copied pl c slots
element_copied new slots own is at v pl c e i w p =
    e ∙ ap (λ xs. with_slot slots own (Plain (with_element (cell_in (slots own)) (map (λ h. index_in (cell_in (slots h))) xs) v))) i
    ∙ ap (λ x. with_slot slots own (Plain (with_element (cell_in (slots own)) (map (λ h. index_in (cell_in (slots h))) at) x))) w
    ∙ ap (λ x. copied x c slots) (sym p)
