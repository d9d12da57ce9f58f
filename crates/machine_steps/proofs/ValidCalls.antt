-- Calls and returns in valid code.
use Rattle.std.proofs.Common.{◌≡◌, ℕ, zero, suc, ◌+◌, ◌-◌, ◌<◌, ◌≤◌, Bool, true, false, List, [], ◌∷◌, ◌++◌, length, get_or, map, reverse, take, drop, Option, Some, None, Result, Ok, Err, refl, sym, ap, ◌∙◌, subst, arith}
use Rattle.std.specs.Prelude.{◌&&◌, ◌||◌, not, nat_lt, slice_get, All, if◌then◌else◌}
use Rattle.std.specs.List.{AllByRecursion, list_all}
use Rattle.std.proofs.Math.Seq.{get_or-append_seam}
use Rattle.std.proofs.lemmas.Grind.{common_steps}
use Rattle.std.proofs.lemmas.List.{reverse-append, length-reverse, get_or_append_left}
use Rattle.std.proofs.lemmas.List.Elements.{All-append}
use Rattle.std.proofs.lemmas.Option.{slice_get_within, get_or_from_slice_get}
use Rattle.std.proofs.lemmas.Bool.Decides.{nat_tests}
use Rattle.kumir_tree.specs.declared.kind.Kind.{Kind}
use Rattle.kumir_tree.specs.declared.kind.Mode.{Mode}
use Rattle.kumir_tree.specs.declared.kind.Mode.TheVariants.{Arg, Res, ArgRes}
use Rattle.kumir_values.specs.declared.value.Value.{Value}
use Rattle.kumir_values.specs.declared.run_end.RunFault.{RunFault}
use Rattle.kumir_values.specs.declared.run_end.RunFault.TheVariants.{Depth}
use Rattle.kumir_values.specs.declared.run_end.EndKind.TheVariants as end
use Rattle.kumir_meaning.specs.Runs as state
use Rattle.kumir_meaning.specs.Runs.{usual}
use Rattle.stack_code.specs.declared.instruction.CallPlace.{CallPlace}
use Rattle.stack_code.specs.declared.instruction.CallPlace.TheVariants as place
use Rattle.stack_code.specs.declared.instruction.CodeLine.{CodeLine}
use Rattle.stack_code.specs.declared.instruction.Instruction.{Instruction}
use Rattle.stack_code.specs.declared.instruction.Instruction.TheVariants.{Call}
use Rattle.stack_code.specs.declared.unit.Shape.{Shape}
use Rattle.stack_code.specs.declared.unit.Shape.TheVariants.{Scalar, Table, Hidden}
use Rattle.stack_code.specs.declared.unit.ParamSlot.{ParamSlot}
use Rattle.stack_code.specs.declared.unit.CodeUnit.{CodeUnit}
use Rattle.stack_code.specs.CodeState.{State, no_slots}
use Rattle.stack_code.specs.Instructions.{Event, Halt, Begun, if_fine, unit_or, unit_at, values_taken, fills_slots, enters_unit, copied_to_places, returns_to, with_answer, leaves_unit}
use Rattle.stack_code.specs.Operands.{target_of}
use Rattle.stack_code.specs.Validity.{IsUnit, is_scalar_of, is_table_of, is_param, is_place_of, is_value_place, is_table_place, place_fits, places_fit, call_fits, names_fit, is_step, is_call, jump_fits, after_step, call_stands}
use Rattle.machine_steps.specs.declared.acted.Acted.TheVariants as did
use Rattle.machine_steps.specs.declared.running.Running.{Running}
use Rattle.machine_steps.specs.States.{slots_of}
use Rattle.machine_steps.specs.Acting.{Acts}
use Rattle.machine_steps.specs.Calls.{BeginsAs}
use Rattle.machine_steps.specs.Returns.{PlaceIsThere, GivesBack, pushed}
use Rattle.machine_steps.specs.Frames.{call_places, places_in, behind_call, line_of, frame_of, frames_of, state_in, AllValid, IsReady, IsEntered, IsPastCalls, IsCallAt, Waits}
use Rattle.machine_steps.proofs.SlotsAreThere.{valid_lines_fit}

both_true : (a b : Bool) → a && b ≡ true → (a ≡ true) × (b ≡ true)
both_true true b h = (refl, h)
both_true false b h = absurd (let wrong : ⊥ = cc in wrong)

-- ---- units

pub unit_is : (units : List CodeUnit) (k : ℕ) (u : CodeUnit) → slice_get units k ≡ Some u → unit_at units k ≡ u
unit_is units k u e = ap unit_or e

pub valid_here : (units : List CodeUnit) (r : Running) → AllValid units → IsEntered units r → IsUnit units (unit_at units r.unit)
valid_here units r v e = v r.unit (unit_at units r.unit) e.unit

-- the body of a valid unit is ready
pub ready : (units : List CodeUnit) (u : CodeUnit) → IsUnit units u → IsReady u
ready units u v = record {
  fits = λ pc l e. valid_lines_fit units u l.what (parts pc l e).0;
  jumps = λ pc l e. (parts pc l e).1;
  calls = λ pc l e. (parts pc l e).2;
}
  where
    parts : (pc : ℕ) (l : CodeLine) → slice_get u.body pc ≡ Some l → (names_fit units u l.what ≡ true) × (jump_fits u.body pc (target_of l.what) ≡ true) × (call_stands u.body pc l ≡ true)
    parts pc l e =
        let w = both_true (names_fit units u l.what && jump_fits u.body pc (target_of l.what)) (call_stands u.body pc l) (v.lines pc l e) in
        let z = both_true (names_fit units u l.what) (jump_fits u.body pc (target_of l.what)) w.0 in
        (z.0, z.1, w.1)

names_ok : (units : List CodeUnit) (u : CodeUnit) (pc : ℕ) (l : CodeLine) → IsUnit units u → slice_get u.body pc ≡ Some l → names_fit units u l.what ≡ true
names_ok units u pc l v e =
    let w = both_true (names_fit units u l.what && jump_fits u.body pc (target_of l.what)) (call_stands u.body pc l) (v.lines pc l e) in
    (both_true (names_fit units u l.what) (jump_fits u.body pc (target_of l.what)) w.0).0

-- ---- what a call names

call_ok : (units : List CodeUnit) (u : CodeUnit) (pc : ℕ) (o : Option CodeLine) (number : ℕ) (places : List CallPlace) → IsUnit units u → slice_get u.body pc ≡ o → IsCallAt o number places → call_fits (slice_get units number) u.slots places ≡ true
call_ok units u pc None number places v e h = absurd h
call_ok units u pc (Some l) number places v e h = ap (names_fit units u) (sym h) ∙ names_ok units u pc l v e

some_callee : (o : Option CodeUnit) (slots : List Shape) (places : List CallPlace) → call_fits o slots places ≡ true → o ≡ Some (unit_or o)
some_callee None slots places h = absurd (let wrong : ⊥ = cc in wrong)
some_callee (Some u) slots places h = refl

pub callee_there : (units : List CodeUnit) (r : Running) (pc number : ℕ) (places : List CallPlace) → AllValid units → IsEntered units r → IsCallAt (line_of units r pc) number places → slice_get units number ≡ Some (unit_at units number)
callee_there units r pc number places v e h = some_callee (slice_get units number) _ places (call_ok units (unit_at units r.unit) pc (line_of units r pc) number places (valid_here units r v e) refl h)

pub callee_within : (units : List CodeUnit) (r : Running) (pc number : ℕ) (places : List CallPlace) → AllValid units → IsEntered units r → IsCallAt (line_of units r pc) number places → number < length units
callee_within units r pc number places v e h = slice_get_within units number (unit_at units number) (callee_there units r pc number places v e h)

pub unit_within : (units : List CodeUnit) (r : Running) → IsEntered units r → r.unit < length units
unit_within units r e = slice_get_within units r.unit (unit_at units r.unit) e.unit

-- ---- slots that are there

shape_there : (slots : List Shape) (x : ℕ) (P : Option Shape → Bool) → P None ≡ false → P (slice_get slots x) ≡ true → x < length slots
shape_there slots x P z h = go (slice_get slots x) refl h
  where
    go : (o : Option Shape) → slice_get slots x ≡ o → P o ≡ true → x < length slots
    go None e k = absurd (let wrong : ⊥ = cc in wrong)
    go (Some s) e k = slice_get_within slots x s e

params_in : (slots : List Shape) (ps : List ParamSlot) → list_all (λ p. is_param (slice_get slots p.slot)) ps ≡ true → AllByRecursion (λ p. p.slot < length slots) ps
params_in slots [] h = tt
params_in slots (p ∷ ps) h = let w = both_true (is_param (slice_get slots p.slot)) _ h in (shape_there slots p.slot is_param refl w.0, params_in slots ps w.1)

first_or : {X : Type 0} (P : X → Type 0) (x : X) (xs : List X) → P x → All P xs → (k : ℕ) (d : X) → k < suc (length xs) → P (get_or (x ∷ xs) k d)
first_or P x xs p all zero d w = p
first_or P x xs p all (suc k) d w = all k d (let less : k < length xs = omega (arith, w) in less)

pub at_each : {X : Type 0} (P : X → Type 0) (xs : List X) → AllByRecursion P xs → All P xs
at_each P [] h = λ k d w. absurd (let wrong : ⊥ = omega (arith, w) in wrong)
at_each P (x ∷ xs) h = λ k d w. first_or P x xs h.0 (at_each P xs h.1) k d w

pub callee_is : (units : List CodeUnit) (number : ℕ) (u : CodeUnit) → u ≡ get_or units number u → slice_get units number ≡ Some (unit_at units number) → u ≡ unit_at units number
callee_is units number u e h = e ∙ get_or_from_slice_get units number (unit_at units number) u h

pub params_there : (units : List CodeUnit) (k : ℕ) → AllValid units → slice_get units k ≡ Some (unit_at units k) → All (λ p. p.slot < length (unit_at units k).slots) (unit_at units k).params
params_there units k v e = at_each (λ p. p.slot < length (unit_at units k).slots) (unit_at units k).params (params_in (unit_at units k).slots (unit_at units k).params (v k (unit_at units k) e).params)

place_of_kind : (kind : Kind) (slots : List Shape) (p : CallPlace) → is_place_of kind slots p ≡ true → PlaceIsThere (length slots) p
place_of_kind kind slots place.Value h = tt
place_of_kind kind slots (place.Slot x) h = shape_there slots x (is_scalar_of kind) refl h
place_of_kind kind slots (place.Element x at) h = shape_there slots x (is_table_of kind (length at)) refl (both_true (is_table_of kind (length at) (slice_get slots x)) _ h).0
place_of_kind kind slots (place.Table x) h = absurd (let wrong : ⊥ = cc in wrong)

value_place : (n : ℕ) (p : CallPlace) → is_value_place p ≡ true → PlaceIsThere n p
value_place n place.Value h = tt
value_place n (place.Slot x) h = absurd (let wrong : ⊥ = cc in wrong)
value_place n (place.Element x at) h = absurd (let wrong : ⊥ = cc in wrong)
value_place n (place.Table x) h = absurd (let wrong : ⊥ = cc in wrong)

table_place : (kind : Kind) (d : ℕ) (slots : List Shape) (p : CallPlace) → is_table_place kind d slots p ≡ true → PlaceIsThere (length slots) p
table_place kind d slots place.Value h = absurd (let wrong : ⊥ = cc in wrong)
table_place kind d slots (place.Slot x) h = absurd (let wrong : ⊥ = cc in wrong)
table_place kind d slots (place.Element x at) h = absurd (let wrong : ⊥ = cc in wrong)
table_place kind d slots (place.Table x) h = shape_there slots x (is_table_of kind d) refl h

one_place : (mode : Mode) (o : Option Shape) (slots : List Shape) (p : CallPlace) → place_fits mode o slots p ≡ true → PlaceIsThere (length slots) p
one_place mode None slots p h = absurd (let wrong : ⊥ = cc in wrong)
one_place Arg (Some (Scalar k)) slots p h = value_place (length slots) p h
one_place Res (Some (Scalar k)) slots p h = place_of_kind k slots p h
one_place ArgRes (Some (Scalar k)) slots p h = place_of_kind k slots p h
one_place mode (Some (Table k d)) slots p h = table_place k d slots p h
one_place mode (Some Hidden) slots p h = absurd (let wrong : ⊥ = cc in wrong)

all_places : (formal : List Shape) (ps : List ParamSlot) (slots : List Shape) (pls : List CallPlace) → places_fit formal ps slots pls ≡ true → AllByRecursion (PlaceIsThere (length slots)) pls
all_places formal [] slots [] h = tt
all_places formal [] slots (pl ∷ pls) h = absurd (let wrong : ⊥ = cc in wrong)
all_places formal (p ∷ ps) slots [] h = tt
all_places formal (p ∷ ps) slots (pl ∷ pls) h =
    let w = both_true (place_fits p.mode (slice_get formal p.slot) slots pl) _ h in
    (one_place p.mode (slice_get formal p.slot) slots pl w.0, all_places formal ps slots pls w.1)

call_places_there : (o : Option CodeUnit) (slots : List Shape) (pls : List CallPlace) → call_fits o slots pls ≡ true → AllByRecursion (PlaceIsThere (length slots)) pls
call_places_there None slots pls h = absurd (let wrong : ⊥ = cc in wrong)
call_places_there (Some c) slots pls h = all_places c.slots c.params slots pls h

-- the places of the call behind which an algorithm waits
places_there : (units : List CodeUnit) (u : CodeUnit) (pc : ℕ) (o : Option CodeLine) → IsUnit units u → slice_get u.body pc ≡ o → AllByRecursion (PlaceIsThere (length u.slots)) (places_in o)
places_there units u pc None v e = tt
places_there units u pc (Some l) v e = of_instruction l.what (names_ok units u pc l v e)
  where
    of_instruction : (i : Instruction) → names_fit units u i ≡ true → AllByRecursion (PlaceIsThere (length u.slots)) (call_places i)
    of_instruction (Call number places) h = call_places_there (slice_get units number) u.slots places h
    of_instruction i h = tt

pub waiting_places : (units : List CodeUnit) (r : Running) → AllValid units → Waits units r → All (PlaceIsThere (length r.slots)) (places_in (line_of units r (r.pc - 1)))
waiting_places units r v w =
    at_each (PlaceIsThere (length r.slots)) (places_in (line_of units r (r.pc - 1)))
    (subst (λ n. AllByRecursion (PlaceIsThere n) (places_in (line_of units r (r.pc - 1)))) (sym w.entered.slots)
    (places_there units (unit_at units r.unit) (r.pc - 1) (line_of units r (r.pc - 1)) (valid_here units r v w.entered) refl))

-- ---- no call stands behind a call, nor at the begin

next_is : (k : ℕ) → 1 ≤ k → k ≡ suc (k - 1)
next_is k h = omega (arith, h)

-- a line that is a call is no step
call_no_step : (i : Instruction) (line : ℕ) → is_call (Some (record { line = line; what = i })) ≡ true → is_step (Some (record { line = line; what = i })) ≡ false
call_no_step (Call u places) line h = refl
call_no_step i line h = absurd (let wrong : ⊥ = cc in wrong)

no_step_there : (o : Option CodeLine) → is_call o ≡ true → is_step o ≡ false
no_step_there None h = absurd (let wrong : ⊥ = cc in wrong)
no_step_there (Some l) h = call_no_step l.what l.line h

step_before : (b step : Bool) → (not b || step) ≡ true → step ≡ false → b ≡ false
step_before true step h e = absurd (let wrong : ⊥ = cc in wrong)
step_before false step h e = refl

no_call_at : (u : CodeUnit) (pc : ℕ) (o : Option CodeLine) → IsReady u → slice_get u.body pc ≡ o → after_step u.body pc ≡ false → is_call o ≡ false
no_call_at u pc None r e z = refl
no_call_at u pc (Some l) r e z = step_before (is_call (Some l)) (after_step u.body pc) (r.calls pc l e) z

pub past_behind : (units : List CodeUnit) (r : Running) → AllValid units → Waits units r → IsPastCalls units r
past_behind units r v w =
    let u = unit_at units r.unit in
    no_call_at u r.pc (line_of units r r.pc) (ready units u (valid_here units r v w.entered)) refl
    (ap (after_step u.body) (next_is r.pc w.behind) ∙ no_step_there (line_of units r (r.pc - 1)) w.call)

pub past_begin : (units : List CodeUnit) (r : Running) → AllValid units → IsEntered units r → r.pc ≡ 0 → IsPastCalls units r
past_begin units r v e z =
    let u = unit_at units r.unit in
    no_call_at u r.pc (line_of units r r.pc) (ready units u (valid_here units r v e)) refl (ap (after_step u.body) z)

-- ---- what a call does

pub one_waits_more : (units : List CodeUnit) (waiting : List Running) (r : Running) → frames_of units (waiting ++ r ∷ []) ≡ frame_of units r ∷ frames_of units waiting
one_waits_more units waiting r = ap (map (frame_of units)) (reverse-append waiting (r ∷ []))

map_length : {A B : Type 0} (f : A → B) (xs : List A) → length (map f xs) ≡ length xs
map_length f [] = refl
map_length f (x ∷ xs) = ap suc (map_length f xs)

pub frames_length : (units : List CodeUnit) (waiting : List Running) → length (frames_of units waiting) ≡ length waiting
frames_length units waiting = map_length (frame_of units) (reverse waiting) ∙ length-reverse waiting

places_are : (o : Option CodeLine) (number : ℕ) (places : List CallPlace) → IsCallAt o number places → places_in o ≡ places
places_are None number places h = absurd h
places_are (Some l) number places h = ap call_places h

one_back : (k : ℕ) → k + 1 - 1 ≡ k
one_back k = omega arith

frame_behind : (units : List CodeUnit) (r : Running) (n number : ℕ) (places : List CallPlace) → IsCallAt (line_of units r r.pc) number places
    → frame_of units (behind_call r n) ≡ record { unit = r.unit; pc = r.pc + 1; stack = drop n r.operands; slots = slots_of r.slots; used = r.used; places = places }
frame_behind units r n number places h =
    ap (λ ps. record { unit = r.unit; pc = r.pc + 1; stack = drop n r.operands; slots = slots_of r.slots; used = r.used; places = ps })
    (ap (λ j. places_in (line_of units r j)) (one_back r.pc) ∙ places_are (line_of units r r.pc) number places h)

pick : (b : Bool) (found : Result Begun RunFault) (g : Begun) (line : ℕ) (k : Begun → State) (e : Event) (new : State) → b ≡ true → found ≡ Ok g → new ≡ k g → Acts (if b then if_fine found line k else e) did.Moved new
pick b found g line k e new t is h = subst (λ c. Acts (if c then if_fine found line k else e) did.Moved new) (sym t) (subst (λ f. Acts (if_fine f line k) did.Moved new) (sym is) h)

pick_fault : (b : Bool) (found : Result Begun RunFault) (f : RunFault) (line : ℕ) (k : Begun → State) (e : Event) (new : State) → b ≡ true → found ≡ Err f → Acts (if b then if_fine found line k else e) (did.Over (end.Fault line f)) new
pick_fault b found f line k e new t is =
    subst (λ c. Acts (if c then if_fine found line k else e) (did.Over (end.Fault line f)) new) (sym t) (subst (λ r. Acts (if_fine r line k) (did.Over (end.Fault line f)) new) (sym is) refl)

room_below : (units : List CodeUnit) (waiting : List Running) → length waiting + 1 < 1000 → nat_lt (length (frames_of units waiting) + 1) 1000 ≡ true
room_below units waiting h = ap (λ n. nat_lt (n + 1) 1000) (frames_length units waiting) ∙ (grind (arith, nat_tests, h))

full : (units : List CodeUnit) (waiting : List Running) → 1000 ≤ length waiting + 1 → nat_lt (length (frames_of units waiting) + 1) 1000 ≡ false
full units waiting h = ap (λ n. nat_lt (n + 1) 1000) (frames_length units waiting) ∙ (grind (arith, nat_tests, h))

begins_with : (found : Result Begun RunFault) (begun : Running) (number slots : ℕ) → BeginsAs found (Ok begun) number slots → found ≡ Ok (slots_of begun.slots, begun.used)
begins_with (Ok g) begun number slots h = ap Ok h.3
begins_with (Err f) begun number slots h = absurd h

begins_so : (found : Result Begun RunFault) (begun : Running) (number slots : ℕ) → BeginsAs found (Ok begun) number slots → (begun.unit ≡ number) × (begun.pc ≡ 0) × (begun.operands ≡ []) × (length begun.slots ≡ slots)
begins_so (Ok g) begun number slots h = (h.0, h.1, h.2, h.4)
begins_so (Err f) begun number slots h = absurd h

begins_not : (found : Result Begun RunFault) (f : RunFault) (number slots : ℕ) → BeginsAs found (Err f) number slots → found ≡ Err f
begins_not (Ok g) f number slots h = absurd h
begins_not (Err g) f number slots h = ap Err (sym h)

abbrev pub received_by : List CodeUnit → ℕ → List CallPlace → Running → Result Begun RunFault
received_by units number places r =
    fills_slots usual.room (unit_at units number).params places (reverse (take (values_taken (unit_at units number).params places) r.operands)) (slots_of r.slots) (no_slots, r.used)

pub entered_acts : (units : List CodeUnit) (r begun : Running) (waiting : List Running) (number line slots : ℕ) (places : List CallPlace)
    → length waiting + 1 < 1000 → BeginsAs (received_by units number places r) (Ok begun) number slots → IsCallAt (line_of units r r.pc) number places
    → Acts (enters_unit usual (unit_at units number) number places line (state_in units r waiting)) did.Moved (state_in units begun (waiting ++ behind_call r (values_taken (unit_at units number).params places) ∷ []))
entered_acts units r begun waiting number line slots places room b call =
    let w = begins_so (received_by units number places r) begun number slots b in
    let frames = one_waits_more units waiting (behind_call r (values_taken (unit_at units number).params places)) ∙ ap (λ f. f ∷ frames_of units waiting) (frame_behind units r (values_taken (unit_at units number).params places) number places call) in
    pick _ (received_by units number places r) (slots_of begun.slots, begun.used) line _ _ _ (room_below units waiting room) (begins_with (received_by units number places r) begun number slots b)
    (λ k. record { unit = w.0 k; pc = w.1 k; stack = w.2 k; slots = slots_of begun.slots; used = begun.used; frames = frames k })

pub entered_fault : (units : List CodeUnit) (r : Running) (waiting : List Running) (number line slots : ℕ) (places : List CallPlace) (f : RunFault) (new : State)
    → length waiting + 1 < 1000 → BeginsAs (received_by units number places r) (Err f) number slots
    → Acts (enters_unit usual (unit_at units number) number places line (state_in units r waiting)) (did.Over (end.Fault line f)) new
entered_fault units r waiting number line slots places f new room b =
    pick_fault _ (received_by units number places r) f line _ _ new (room_below units waiting room) (begins_not (received_by units number places r) f number slots b)

too_deep : (b : Bool) (v : Event) (line : ℕ) (new : State) → b ≡ false → Acts (if b then v else Halt (state.Fault line Depth)) (did.Over (end.Fault line Depth)) new
too_deep b v line new e = subst (λ c. Acts (if c then v else Halt (state.Fault line Depth)) (did.Over (end.Fault line Depth)) new) (sym e) refl

pub entered_too_deep : (units : List CodeUnit) (r : Running) (waiting : List Running) (number line : ℕ) (places : List CallPlace) (new : State)
    → 1000 ≤ length waiting + 1 → Acts (enters_unit usual (unit_at units number) number places line (state_in units r waiting)) (did.Over (end.Fault line Depth)) new
entered_too_deep units r waiting number line places new h = too_deep _ _ line new (full units waiting h)

-- with what the code knows

begun_by : (units : List CodeUnit) (r begun : Running) (callee : CodeUnit) (number : ℕ) (places : List CallPlace) (o : Result Running RunFault) → callee ≡ unit_at units number
    → BeginsAs (fills_slots usual.room callee.params places (reverse (take (values_taken callee.params places) r.operands)) (slots_of r.slots) (no_slots, r.used)) o number (length callee.slots)
    → BeginsAs (received_by units number places r) o number (length (unit_at units number).slots)
begun_by units r begun callee number places o k b =
    subst (λ u. BeginsAs (fills_slots usual.room u.params places (reverse (take (values_taken u.params places) r.operands)) (slots_of r.slots) (no_slots, r.used)) o number (length u.slots)) k b

pub entered_on : (units : List CodeUnit) (r new begun : Running) (waiting after : List Running) (callee : CodeUnit) (number line count : ℕ) (places : List CallPlace) (o : Result Running RunFault)
    → callee ≡ unit_at units number → length waiting + 1 < 1000
    → BeginsAs (fills_slots usual.room callee.params places (reverse (take (values_taken callee.params places) r.operands)) (slots_of r.slots) (no_slots, r.used)) o number (length callee.slots)
    → o ≡ Ok begun → IsCallAt (line_of units r r.pc) number places → count ≡ values_taken callee.params places → new ≡ begun → after ≡ waiting ++ behind_call r count ∷ []
    → Acts (enters_unit usual (unit_at units number) number places line (state_in units r waiting)) did.Moved (state_in units new after)
entered_on units r new begun waiting after callee number line count places o k room b is call c n a =
    let begins = subst (λ x. BeginsAs (received_by units number places r) x number (length (unit_at units number).slots)) is (begun_by units r begun callee number places o k b) in
    let counted : count ≡ values_taken (unit_at units number).params places = c ∙ ap (λ u. values_taken u.params places) k in
    let last : after ≡ waiting ++ behind_call r (values_taken (unit_at units number).params places) ∷ [] = a ∙ ap (λ x. waiting ++ behind_call r x ∷ []) counted in
    subst (λ x. Acts (enters_unit usual (unit_at units number) number places line (state_in units r waiting)) did.Moved (state_in units x after)) (sym n)
    (subst (λ x. Acts (enters_unit usual (unit_at units number) number places line (state_in units r waiting)) did.Moved (state_in units begun x)) (sym last)
    (entered_acts units r begun waiting number line (length (unit_at units number).slots) places room begins call))

pub entered_not : (units : List CodeUnit) (r : Running) (waiting : List Running) (callee : CodeUnit) (number line : ℕ) (places : List CallPlace) (o : Result Running RunFault) (f : RunFault) (new : State)
    → callee ≡ unit_at units number → length waiting + 1 < 1000
    → BeginsAs (fills_slots usual.room callee.params places (reverse (take (values_taken callee.params places) r.operands)) (slots_of r.slots) (no_slots, r.used)) o number (length callee.slots)
    → o ≡ Err f → Acts (enters_unit usual (unit_at units number) number places line (state_in units r waiting)) (did.Over (end.Fault line f)) new
entered_not units r waiting callee number line places o f new k room b is =
    let begins = subst (λ x. BeginsAs (received_by units number places r) x number (length (unit_at units number).slots)) is (begun_by units r r callee number places o k b) in
    entered_fault units r waiting number line (length (unit_at units number).slots) places f new room begins

pub entered_here : (units : List CodeUnit) (r new begun : Running) (callee : CodeUnit) (number : ℕ) (places : List CallPlace) (o : Result Running RunFault)
    → callee ≡ unit_at units number → slice_get units number ≡ Some (unit_at units number)
    → BeginsAs (fills_slots usual.room callee.params places (reverse (take (values_taken callee.params places) r.operands)) (slots_of r.slots) (no_slots, r.used)) o number (length callee.slots)
    → o ≡ Ok begun → new ≡ begun → IsEntered units new × (new.pc ≡ 0)
entered_here units r new begun callee number places o k there b is n =
    let begins = subst (λ x. BeginsAs (received_by units number places r) x number (length (unit_at units number).slots)) is (begun_by units r begun callee number places o k b) in
    let w = begins_so (received_by units number places r) begun number (length (unit_at units number).slots) begins in
    subst (λ x. IsEntered units x × (x.pc ≡ 0)) (sym n)
    (record { unit = ap (slice_get units) w.0 ∙ there ∙ ap (λ j. Some (unit_at units j)) (sym w.0); slots = w.3 ∙ ap (λ j. length (unit_at units j).slots) (sym w.0) }, w.1)

call_is : (o : Option CodeLine) (number : ℕ) (places : List CallPlace) → IsCallAt o number places → is_call o ≡ true
call_is None number places h = absurd h
call_is (Some l) number places h = ap (λ i. is_call (Some (record { line = l.line; what = i }))) h

behind_waits : (units : List CodeUnit) (r : Running) (count number : ℕ) (places : List CallPlace) → IsEntered units r → IsCallAt (line_of units r r.pc) number places → Waits units (behind_call r count)
behind_waits units r count number places e h = record {
  entered = record { unit = e.unit; slots = e.slots };
  behind = omega arith;
  call = ap (λ j. is_call (line_of units r j)) (one_back r.pc) ∙ call_is (line_of units r r.pc) number places h;
}

pub entered_waits : (units : List CodeUnit) (r : Running) (waiting after : List Running) (count number : ℕ) (places : List CallPlace) → IsEntered units r → IsCallAt (line_of units r r.pc) number places → All (Waits units) waiting → after ≡ waiting ++ behind_call r count ∷ []
    → All (Waits units) after
entered_waits units r waiting after count number places e h all a =
    subst (All (Waits units)) (sym a) (All-append (Waits units) waiting (behind_call r count ∷ []) all (at_each (Waits units) (behind_call r count ∷ []) (behind_waits units r count number places e h, tt)))

-- ---- what a return does

values_of : Option Value → List Value
values_of None = []
values_of (Some v) = v ∷ []

stack_is : (a : Option Value) (xs : List Value) → values_of a ++ xs ≡ pushed a xs
unfolding values_of
stack_is None xs = refl
stack_is (Some v) xs = refl

pub left_fault : (gives : Option ℕ) (params : List ParamSlot) (line : ℕ) (s new : State) (f : RunFault) → GivesBack gives s.slots (Err f) → Acts (leaves_unit gives params line s) (did.Over (end.Fault line f)) new
left_fault None params line s new f h = absurd h
left_fault (Some x) params line s new f h = subst (λ r. Acts (with_answer r line (λ value. returns_to s.frames params s.slots value)) (did.Over (end.Fault line f)) new) (sym h) refl

returns_with : (gives : Option ℕ) (params : List ParamSlot) (line : ℕ) (s : State) (a : Option Value) → GivesBack gives s.slots (Ok a) → leaves_unit gives params line s ≡ returns_to s.frames params s.slots (values_of a)
unfolding values_of
returns_with None params line s None h = refl
returns_with None params line s (Some v) h = absurd h
returns_with (Some x) params line s None h = absurd h
returns_with (Some x) params line s (Some v) h = ap (λ r. with_answer r line (λ value. returns_to s.frames params s.slots value)) h

pub left_last : (gives : Option ℕ) (params : List ParamSlot) (line : ℕ) (s new : State) (a : Option Value) → GivesBack gives s.slots (Ok a) → s.frames ≡ [] → Acts (leaves_unit gives params line s) (did.Over end.Done) new
left_last gives params line s new a h e =
    subst (λ v. Acts v (did.Over end.Done) new) (sym (returns_with gives params line s a h ∙ ap (λ fs. returns_to fs params s.slots (values_of a)) e)) refl

pub left_on : (units : List CodeUnit) (r new caller : Running) (old rest : List Running) (gives : Option ℕ) (params : List ParamSlot) (line : ℕ) (a : Option Value)
    → GivesBack gives (slots_of r.slots) (Ok a) → old ≡ rest ++ caller ∷ []
    → new.unit ≡ caller.unit → new.pc ≡ caller.pc → new.operands ≡ pushed a caller.operands
    → slots_of new.slots ≡ copied_to_places params (places_in (line_of units caller (caller.pc - 1))) (slots_of r.slots) (slots_of caller.slots) → new.used ≡ caller.used
    → Acts (leaves_unit gives params line (state_in units r old)) did.Moved (state_in units new rest)
left_on units r new caller old rest gives params line a h e unit pc stack slots used =
    let frames : frames_of units old ≡ frame_of units caller ∷ frames_of units rest = ap (frames_of units) e ∙ one_waits_more units rest caller in
    let whole : new.operands ≡ values_of a ++ caller.operands = stack ∙ sym (stack_is a caller.operands) in
    subst (λ v. Acts v did.Moved (state_in units new rest)) (sym (returns_with gives params line (state_in units r old) a h ∙ ap (λ fs. returns_to fs params (slots_of r.slots) (values_of a)) frames))
    (λ k. record { unit = unit k; pc = pc k; stack = whole k; slots = slots k; used = used k; frames = frames_of units rest })

pub left_here : (units : List CodeUnit) (new caller : Running) → Waits units caller → new.unit ≡ caller.unit → length new.slots ≡ length caller.slots → IsEntered units new
left_here units new caller w u n = record {
  unit = ap (slice_get units) u ∙ w.entered.unit ∙ ap (λ j. Some (unit_at units j)) (sym u);
  slots = n ∙ w.entered.slots ∙ ap (λ j. length (unit_at units j).slots) (sym u);
}

pub left_past : (units : List CodeUnit) (new caller : Running) → AllValid units → Waits units caller → new.unit ≡ caller.unit → new.pc ≡ caller.pc → IsPastCalls units new
left_past units new caller v w u p = ap (λ k. is_call (slice_get (unit_at units k).body new.pc)) u ∙ ap (λ k. is_call (slice_get (unit_at units caller.unit).body k)) p ∙ past_behind units caller v w

pub last_waits : (units : List CodeUnit) (old rest : List Running) (caller : Running) → All (Waits units) old → old ≡ rest ++ caller ∷ [] → Waits units caller
last_waits units old rest caller all e =
    let all1 = subst (All (Waits units)) e all in
    let within : length rest < length (rest ++ caller ∷ []) = grind (arith, common_steps) in
    subst (Waits units) (get_or-append_seam rest caller [] caller) (all1 (length rest) caller within)

pub others_wait : (units : List CodeUnit) (old rest : List Running) (caller : Running) → All (Waits units) old → old ≡ rest ++ caller ∷ [] → All (Waits units) rest
others_wait units old rest caller all e =
    let all1 = subst (All (Waits units)) e all in
    λ k d h.
    let within : k < length (rest ++ caller ∷ []) = grind (arith, common_steps, h) in
    subst (Waits units) (get_or_append_left rest (caller ∷ []) d k h) (all1 k d within)
