-- Where an instruction leads that concerns one algorithm alone.
use Rattle.std.proofs.Common.{◌≡◌, ℕ, zero, suc, ◌+◌, ◌-◌, ◌*◌, ◌<◌, ◌≤◌, Bool, true, false, List, drop, length, Option, Some, None, Result, Ok, Err, refl, sym, ap, ◌∙◌, subst, arith, inl, inr, ⊎_elim}
use Rattle.std.specs.Prelude.{ℤ, pos, ◌+ℤ◌, ◌⊎◌, ◌&&◌, ◌||◌, not, nat_lt, nat_le, slice_get, if◌then◌else◌}
use Rattle.std.specs.Ordering.{int_eq}
use Rattle.std.proofs.lemmas.Bool.Decides.{nat_tests}
use Rattle.std.proofs.lemmas.Option.{slice_get_within}
use Rattle.kumir_tree.specs.declared.kind.Kind.{Kind}
use Rattle.kumir_values.specs.declared.value.Value.{Value}
use Rattle.kumir_values.specs.declared.bounds.Bound.{Bound}
use Rattle.kumir_values.specs.declared.run_end.RunFault.{RunFault}
use Rattle.kumir_values.specs.Bounds.{all_ordered, elements}
use Rattle.kumir_tree.specs.declared.kind.Op.{Op}
use Rattle.kumir_tree.specs.declared.kind.Op.TheVariants as op
use Rattle.kumir_meaning.specs.Operators.{number_of, is_yes, combined}
use Rattle.kumir_meaning.specs.Store.{elements_in}
use Rattle.kumir_meaning.specs.Runs.{Act, RunState, usual}
use Rattle.kumir_meaning.specs.Loops.{past}
use Rattle.stack_code.specs.declared.instruction.CommandShape.TheVariants.{Robot, Pen}
use Rattle.stack_code.specs.declared.instruction.Instruction.{Instruction}
use Rattle.stack_code.specs.declared.instruction.Instruction.TheVariants.{Push, Drop, Load, Store, Clear, Elem, PutElem, Probe, Make, Fit, Add, Sub, Mul, Pow, Neg, Div, Mod, Abs, Min, Max, Eq, Ne, Lt, Le, Gt, Ge, EqTruth, NeTruth, Not, Jump, JumpNo, Step, Times, Turns, Next, Out, OutText, OutLine, Input, Assert, Quit, Ask, Call, Return}
use Rattle.stack_code.specs.declared.instruction.CodeLine.{CodeLine}
use Rattle.stack_code.specs.declared.unit.CodeUnit.{CodeUnit}
use Rattle.stack_code.specs.CodeState.{Slot, Plain, Left, Numbers, State, top, rest, numbers, paired, cell_in, with_slot, goes_to}
use Rattle.stack_code.specs.Instructions.{Event, Go, Tick, Does, Asks, Takes, Halt, pushes_result, operates, if_fine, makes_table, set_variable, next_turn, begins_turns, event_of}
use Rattle.stack_code.specs.Operands.{target_of}
use Rattle.stack_code.specs.Validity.{is_step, is_call, leads_on, jump_fits, after_step}
use Rattle.machine_steps.specs.declared.acted.Acted.{Acted}
use Rattle.machine_steps.specs.declared.acted.Acted.TheVariants as did
use Rattle.machine_steps.specs.Acting.{Acts}
use Rattle.machine_steps.specs.Local.{is_local}
use Rattle.machine_steps.specs.Frames.{IsReady}
use Rattle.machine_steps.specs.Silent.{before_step}

-- an event that goes on leads to the next place, or to the target, in the same unit
Lands : ℕ → Option ℕ → ℕ → Event → Type 0
Lands pc t u (Go m) = ((m.pc ≡ pc + 1) ⊎ (t ≡ Some m.pc)) × (m.unit ≡ u)
Lands pc t u (Tick m) = Unit {0}
Lands pc t u (Does a m) = ((m.pc ≡ pc + 1) ⊎ (t ≡ Some m.pc)) × (m.unit ≡ u)
Lands pc t u (Asks c after) = Unit {0}
Lands pc t u (Takes kind line s) = Unit {0}
Lands pc t u (Halt end) = Unit {0}

of_go : (s m : State) (t : Option ℕ) → m.pc ≡ s.pc + 1 → m.unit ≡ s.unit → Lands s.pc t s.unit (Go m)
unfolding Lands
of_go s m t e u = (inl e, u)

of_jump : (s m : State) (t : Option ℕ) → t ≡ Some m.pc → m.unit ≡ s.unit → Lands s.pc t s.unit (Go m)
unfolding Lands
of_jump s m t e u = (inr e, u)

of_does : (a : Act) (s m : State) (t : Option ℕ) → m.pc ≡ s.pc + 1 → m.unit ≡ s.unit → Lands s.pc t s.unit (Does a m)
unfolding Lands
of_does a s m t e u = (inl e, u)

of_halt : (e : RunState) (s : State) (t : Option ℕ) → Lands s.pc t s.unit (Halt e)
unfolding Lands
of_halt e s t = tt

of_gives : (got : Result Value RunFault) (line : ℕ) (s : State) (stack : List Value) → Lands s.pc None s.unit (pushes_result got line s stack)
of_gives (Ok v) line s stack = of_go s _ None refl refl
of_gives (Err f) line s stack = of_halt _ s None

of_operator : (o : Op) (line : ℕ) (s : State) → Lands s.pc None s.unit (operates o line s)
of_operator o line s = of_gives (combined o (top (rest s.stack)) (top s.stack)) line s (rest (rest s.stack))

of_fine : {T : Type 0} (found : Result T RunFault) (line : ℕ) (s : State) (k : T → State) → ((x : T) → (k x).pc ≡ s.pc + 1) → ((x : T) → (k x).unit ≡ s.unit) → Lands s.pc None s.unit (if_fine found line k)
of_fine (Ok x) line s k h u = of_go s (k x) None (h x) (u x)
of_fine (Err f) line s k h u = of_halt _ s None

of_choice : (b : Bool) (s : State) (t : Option ℕ) (v w : Event) → Lands s.pc t s.unit v → Lands s.pc t s.unit w → Lands s.pc t s.unit (if b then v else w)
of_choice true s t v w p q = p
of_choice false s t v w p q = q

of_makes : (room x : ℕ) (kind : Kind) (bounds : List Bound) (line : ℕ) (s : State) (stack : List Value) → Lands s.pc None s.unit (makes_table room x kind bounds line s stack)
of_makes room x kind bounds line s stack =
    of_choice (all_ordered bounds) s None _ _ (of_choice (nat_le (s.used - elements_in (cell_in (s.slots x)) + elements bounds) room) s None _ _ (of_go s _ None refl refl) (of_halt _ s None)) (of_halt _ s None)

of_turns : (x : ℕ) (first last step : ℤ) (line : ℕ) (s : State) → Lands s.pc None s.unit (begins_turns x first last step line s)
of_turns x first last step line s = of_choice (int_eq step (pos 0)) s None _ _ (of_halt _ s None) (of_go s _ None refl refl)

of_number : (b : Bool) (a : ℕ) (s m : State) → m.pc ≡ s.pc + 1 → m.unit ≡ s.unit → Lands s.pc (Some a) s.unit (Go (if b then goes_to s a s.stack else m))
of_number true a s m e u = of_jump s _ (Some a) refl refl
of_number false a s m e u = of_go s m (Some a) e u

of_next : (k : Slot) (x : ℕ) (v : Option ℕ) (a : ℕ) (s : State) → Lands s.pc (Some a) s.unit (Go (next_turn k x v a s))
of_next (Plain c) x v a s = of_jump s _ (Some a) refl refl
of_next (Left zero) x v a s = of_jump s _ (Some a) refl refl
of_next (Left (suc n)) x v a s = of_go s _ (Some a) refl refl
of_next (Numbers z last step) x v a s =
    of_number (past z last step) a s (record s { pc = s.pc + 1; slots = set_variable v z (with_slot s.slots x (Numbers (z +ℤ step) last step)) }) refl refl

of_answer : (b : Bool) (s : State) (a : ℕ) (stack : List Value) → Lands s.pc (Some a) s.unit (Go (goes_to s (if b then s.pc + 1 else a) stack))
of_answer true s a stack = of_go s _ (Some a) refl refl
of_answer false s a stack = of_jump s _ (Some a) refl refl

lands : (units : List CodeUnit) (i : Instruction) (line : ℕ) (s : State) → is_local i ≡ true → Lands s.pc (target_of i) s.unit (event_of usual units i line s)
lands units (Push v) line s h = of_go s _ None refl refl
lands units Drop line s h = of_go s _ None refl refl
lands units (Load x) line s h = of_gives _ line s _
lands units (Store x) line s h = of_go s _ None refl refl
lands units (Clear x) line s h = of_go s _ None refl refl
lands units (Elem x d) line s h = of_gives _ line s _
lands units (PutElem x d) line s h = of_fine _ line s _ (λ at. refl) (λ at. refl)
lands units (Probe x d) line s h = of_fine _ line s _ (λ at. refl) (λ at. refl)
lands units (Make x k d) line s h = of_makes usual.room x k (paired (numbers (2 * d) s.stack)) line s (drop (2 * d) s.stack)
lands units (Fit x d) line s h = of_fine _ line s _ (λ c. refl) (λ c. refl)
lands units Add line s h = of_operator op.Plus line s
lands units Sub line s h = of_operator op.Minus line s
lands units Mul line s h = of_operator op.Times line s
lands units Pow line s h = of_operator op.Power line s
lands units Neg line s h = of_gives _ line s _
lands units Div line s h = of_gives _ line s _
lands units Mod line s h = of_gives _ line s _
lands units Abs line s h = of_gives _ line s _
lands units Min line s h = of_gives _ line s _
lands units Max line s h = of_gives _ line s _
lands units Eq line s h = of_operator op.Equal line s
lands units Ne line s h = of_operator op.NotEqual line s
lands units Lt line s h = of_operator op.Less line s
lands units Le line s h = of_operator op.LessOrEqual line s
lands units Gt line s h = of_operator op.Greater line s
lands units Ge line s h = of_operator op.GreaterOrEqual line s
lands units EqTruth line s h = of_operator op.Equal line s
lands units NeTruth line s h = of_operator op.NotEqual line s
lands units Not line s h = of_go s _ None refl refl
lands units (Jump a) line s h = of_jump s _ (Some a) refl refl
lands units (JumpNo a) line s h = of_answer (is_yes (top s.stack)) s a (rest s.stack)
lands units Step line s h = absurd (let wrong : ⊥ = cc in wrong)
lands units (Times x) line s h = of_go s _ None refl refl
lands units (Turns x) line s h = of_turns x (number_of (top (rest (rest s.stack)))) (number_of (top (rest s.stack))) (number_of (top s.stack)) line s
lands units (Next x v a) line s h = of_next (s.slots x) x v a s
lands units Out line s h = of_does _ s _ None refl refl
lands units (OutText text) line s h = of_does _ s _ None refl refl
lands units OutLine line s h = of_does _ s _ None refl refl
lands units (Input k) line s h = absurd (let wrong : ⊥ = cc in wrong)
lands units Assert line s h = of_choice (is_yes (top s.stack)) s None _ _ (of_go s _ None refl refl) (of_halt _ s None)
lands units Quit line s h = of_halt _ s None
lands units (Ask (Robot c)) line s h = absurd (let wrong : ⊥ = cc in wrong)
lands units (Ask (Pen c)) line s h = of_does _ s _ None refl refl
lands units (Call u places) line s h = absurd (let wrong : ⊥ = cc in wrong)
lands units Return line s h = absurd (let wrong : ⊥ = cc in wrong)

-- what was carried out and is not over leads to the next place, or to the target
abbrev pub goes_on : Acted → Bool
goes_on (did.Over end) = false
goes_on did.Moved = true
goes_on (did.Printed t) = true
goes_on (did.Told c) = true

landed : (v : Event) (a : Acted) (new : State) (pc : ℕ) (t : Option ℕ) (u : ℕ) → goes_on a ≡ true → Acts v a new → Lands pc t u v → ((new.pc ≡ pc + 1) ⊎ (t ≡ Some new.pc)) × (new.unit ≡ u)
unfolding Lands
landed (Go m) did.Moved new pc t u g h l = subst (λ s. ((s.pc ≡ pc + 1) ⊎ (t ≡ Some s.pc)) × (s.unit ≡ u)) (sym h) l
landed (Go m) (did.Printed x) new pc t u g h l = absurd h
landed (Go m) (did.Told x) new pc t u g h l = absurd h
landed (Go m) (did.Over x) new pc t u g h l = absurd h
landed (Tick m) a new pc t u g h l = absurd h
landed (Does act m) a new pc t u g h l = subst (λ s. ((s.pc ≡ pc + 1) ⊎ (t ≡ Some s.pc)) × (s.unit ≡ u)) (sym h.1) l
landed (Asks c after) a new pc t u g h l = absurd h
landed (Takes kind line s) a new pc t u g h l = absurd h
landed (Halt end) (did.Over x) new pc t u g h l = absurd (let wrong : ⊥ = cc in wrong)
landed (Halt end) did.Moved new pc t u g h l = absurd h
landed (Halt end) (did.Printed x) new pc t u g h l = absurd h
landed (Halt end) (did.Told x) new pc t u g h l = absurd h

leads_so : (units : List CodeUnit) (i : Instruction) (line : ℕ) (s new : State) (a : Acted) → is_local i ≡ true → goes_on a ≡ true → Acts (event_of usual units i line s) a new
    → ((new.pc ≡ s.pc + 1) ⊎ (target_of i ≡ Some new.pc)) × (new.unit ≡ s.unit)
leads_so units i line s new a h g e = landed (event_of usual units i line s) a new s.pc (target_of i) s.unit g e (lands units i line s h)

leads : (units : List CodeUnit) (i : Instruction) (line : ℕ) (s new : State) (a : Acted) → is_local i ≡ true → goes_on a ≡ true → Acts (event_of usual units i line s) a new
    → (new.pc ≡ s.pc + 1) ⊎ (target_of i ≡ Some new.pc)
leads units i line s new a h g e = (leads_so units i line s new a h g e).0

pub same_unit : (units : List CodeUnit) (i : Instruction) (line : ℕ) (s new : State) (a : Acted) → is_local i ≡ true → goes_on a ≡ true → Acts (event_of usual units i line s) a new → new.unit ≡ s.unit
same_unit units i line s new a h g e = (leads_so units i line s new a h g e).1

-- ---- calls and steps at the place to which it leads

both_true : (a b : Bool) → a && b ≡ true → (a ≡ true) × (b ≡ true)
both_true true b h = (refl, h)
both_true false b h = absurd (let wrong : ⊥ = cc in wrong)

not_true : (a : Bool) → not a ≡ true → a ≡ false
not_true true h = absurd (let wrong : ⊥ = cc in wrong)
not_true false h = refl

-- a target is no call, and lies ahead or is a step
target_ok : (body : List CodeLine) (pc a : ℕ) (t : Option ℕ) → t ≡ Some a → jump_fits body pc t ≡ true → leads_on body pc a ≡ true
target_ok body pc a None e h = absurd (let wrong : ⊥ = cc in wrong)
target_ok body pc a (Some b) e h = subst (λ x. leads_on body pc x ≡ true) (let same : b ≡ a = cc in same) h

pub no_call_there : (body : List CodeLine) (pc a : ℕ) → leads_on body pc a ≡ true → is_call (slice_get body a) ≡ false
no_call_there body pc a h = not_true _ (both_true _ (not (is_call (slice_get body a))) h).1

ahead : (b : Bool) (pc a n : ℕ) (step : Bool) → nat_lt pc a ≡ b → (if b then nat_lt a n else step) ≡ true → (pc < a) ⊎ (step ≡ true)
ahead true pc a n step e h = inl (grind (arith, nat_tests, e))
ahead false pc a n step e h = inr h

pub lies_ahead : (body : List CodeLine) (pc a : ℕ) → leads_on body pc a ≡ true → (pc < a) ⊎ (is_step (slice_get body a) ≡ true)
lies_ahead body pc a h = ahead (nat_lt pc a) pc a (length body) (is_step (slice_get body a)) refl (both_true (if nat_lt pc a then nat_lt a (length body) else is_step (slice_get body a)) _ h).0

next_place : (pc : ℕ) → pc + 1 ≡ suc pc
next_place pc = omega arith

-- behind an instruction that is no step stands no call
step_before : (b step : Bool) → (not b || step) ≡ true → step ≡ false → b ≡ false
step_before true step h e = absurd (let wrong : ⊥ = cc in wrong)
step_before false step h e = refl

pub no_call_behind : (u : CodeUnit) (pc : ℕ) → IsReady u → is_step (slice_get u.body pc) ≡ false → is_call (slice_get u.body (pc + 1)) ≡ false
no_call_behind u pc ready e = go (slice_get u.body (pc + 1)) refl
  where
    go : (o : Option CodeLine) → slice_get u.body (pc + 1) ≡ o → is_call o ≡ false
    go None h = refl
    go (Some l) h = step_before (is_call (Some l)) (is_step (slice_get u.body pc)) (subst (λ k. (not (is_call (Some l)) || after_step u.body k) ≡ true) (next_place pc) (ready.calls (pc + 1) l h)) e

local_no_step : (i : Instruction) → is_local i ≡ true → (line : ℕ) → is_step (Some (record { line = line; what = i })) ≡ false
local_no_step Step h line = absurd (let wrong : ⊥ = cc in wrong)
local_no_step i h line = refl

pub stands_at : (body : List CodeLine) (pc : ℕ) (l : CodeLine) → slice_get body pc ≡ Some l → is_local l.what ≡ true → is_step (slice_get body pc) ≡ false
stands_at body pc l at h = ap is_step at ∙ local_no_step l.what h l.line

pub past_calls : (units : List CodeUnit) (u : CodeUnit) (l : CodeLine) (s new : State) (a : Acted) → IsReady u → slice_get u.body s.pc ≡ Some l → is_local l.what ≡ true → goes_on a ≡ true → Acts (event_of usual units l.what l.line s) a new → is_call (slice_get u.body new.pc) ≡ false
past_calls units u l s new a ready at h g e = ⊎_elim
    (λ w. subst (λ k. is_call (slice_get u.body k) ≡ false) (sym w) (no_call_behind u s.pc ready (stands_at u.body s.pc l at h)))
    (λ w. no_call_there u.body s.pc new.pc (target_ok u.body s.pc new.pc (target_of l.what) w (ready.jumps s.pc l at)))
    (leads units l.what l.line s new a h g e)

-- ---- the measure

most : (b : Bool) (n : ℕ) → (if b then 0 else n) ≤ n
most true n = omega arith
most false n = omega arith

pub before_most : (u : CodeUnit) (pc : ℕ) → before_step u pc ≤ suc (length u.body - pc)
before_most u pc = most (is_step (slice_get u.body pc)) (suc (length u.body - pc))

at_step : (u : CodeUnit) (pc : ℕ) → is_step (slice_get u.body pc) ≡ true → before_step u pc ≡ 0
at_step u pc e = ap (λ b. if b then 0 else suc (length u.body - pc)) e

no_step : (u : CodeUnit) (pc : ℕ) → is_step (slice_get u.body pc) ≡ false → before_step u pc ≡ suc (length u.body - pc)
no_step u pc e = ap (λ b. if b then 0 else suc (length u.body - pc)) e

further : (u : CodeUnit) (pc q : ℕ) → pc < length u.body → pc < q → before_step u pc ≡ suc (length u.body - pc) → before_step u q < before_step u pc
further u pc q w lt here = let m = before_most u q in omega (arith, here, m, w, lt)

pub falls : (units : List CodeUnit) (u : CodeUnit) (l : CodeLine) (s new : State) (a : Acted) → IsReady u → slice_get u.body s.pc ≡ Some l → is_local l.what ≡ true → goes_on a ≡ true → Acts (event_of usual units l.what l.line s) a new → before_step u new.pc < before_step u s.pc
falls units u l s new a ready at h g e =
    let within = slice_get_within u.body s.pc l at in
    let here = no_step u s.pc (stands_at u.body s.pc l at h) in
    ⊎_elim
    (λ w. let lt : s.pc < new.pc = omega (arith, w) in further u s.pc new.pc within lt here)
    (λ w. ⊎_elim
    (λ lt. further u s.pc new.pc within lt here)
    (λ st. let z = at_step u new.pc st in omega (arith, z, here))
    (lies_ahead u.body s.pc new.pc (target_ok u.body s.pc new.pc (target_of l.what) w (ready.jumps s.pc l at))))
    (leads units l.what l.line s new a h g e)
