-- Valid code has a run, for each number of steps.
use Rattle.std.proofs.Common.{◌≡◌, ℕ, zero, suc, ◌+◌, ◌-◌, ◌<◌, ◌≤◌, Bool, true, false, List, [], ◌∷◌, length, Option, Some, None, Result, Ok, Err, refl, sym, ap, ◌∙◌, subst, arith, ⊎_elim}
use Rattle.std.specs.Prelude.{map, slice_get, if◌then◌else◌}
use Rattle.std.proofs.lemmas.Option.{slice_get_within}
use Rattle.performer_kit.specs.declared.commands.Command.{Command}
use Rattle.performer_kit.specs.declared.commands.Reply.{Reply}
use Rattle.kumir_tree.specs.declared.kind.Kind.{Kind}
use Rattle.kumir_values.specs.declared.value.Value.{Value}
use Rattle.kumir_values.specs.declared.run_end.RunFault.{RunFault}
use Rattle.kumir_values.specs.declared.run_end.RunFault.TheVariants.{NoInput}
use Rattle.kumir_meaning.specs.Runs.{Act, Sent, RunState, Trace, only, after_act, input_as, usual}
use Rattle.kumir_meaning.specs.Runs as state
use Rattle.kumir_meaning.specs.Store.{given_back}
use Rattle.stack_code.specs.declared.instruction.CallPlace.{CallPlace}
use Rattle.stack_code.specs.declared.instruction.CodeLine.{CodeLine}
use Rattle.stack_code.specs.declared.instruction.Instruction.{Instruction}
use Rattle.stack_code.specs.declared.instruction.Instruction.TheVariants.{Step, Call, Return}
use Rattle.stack_code.specs.declared.unit.CodeUnit.{CodeUnit}
use Rattle.stack_code.specs.declared.unit.ParamSlot.{ParamSlot}
use Rattle.stack_code.specs.CodeState.{Slots, Frame, State, cell_in, next}
use Rattle.stack_code.specs.Instructions.{After, On, Over, Event, Go, Tick, Does, Asks, Takes, Halt, Begun, if_fine, enters_unit, returns_to, with_answer, leaves_unit, unit_or, unit_at, event_of, event_at, step}
use Rattle.stack_code.specs.CodeRuns.{after_some, after_reply, after_input, meet, exec, start, CodeRun}
use Rattle.stack_code.specs.Operands.{target_of}
use Rattle.stack_code.specs.Validity.{is_step, is_call, jump_fits, has_no_params, entry_fits}
use Rattle.machine_steps.specs.declared.held.Held.{Held}
use Rattle.machine_steps.specs.declared.held.Held.TheVariants as held
use Rattle.machine_steps.specs.declared.held.Cell.TheVariants as cell
use Rattle.machine_steps.specs.declared.running.Running.{Running}
use Rattle.machine_steps.specs.Frames.{IsCallAt, AllValid, IsReady, IsEntered}
use Rattle.machine_steps.specs.Silent.{before_step}
use Rattle.machine_steps.proofs.ValidCalls.{valid_here, ready, callee_there, past_begin, past_behind}
use Rattle.machine_steps.proofs.JumpsFit.{no_call_behind, no_call_there, lies_ahead}
use Rattle.kumir_machine.specs.Laws.{HasATrace}
use Rattle.kumir_machine.proofs.LocalTargets.{Stays, Moves, moves}

-- ---- a state in valid code

-- a unit that is there, at a place where no call stands
record IsPlace (units : List CodeUnit) (unit pc : ℕ) : Type 0 where
  there : slice_get units unit ≡ Some (unit_at units unit)
  past : is_call (slice_get (unit_at units unit).body pc) ≡ false

abbrev AreFrames : List CodeUnit → List Frame → Type 0
AreFrames units [] = Unit {0}
AreFrames units (f ∷ fs) = IsPlace units f.unit f.pc × AreFrames units fs

record IsState (units : List CodeUnit) (s : State) : Type 0 where
  place : IsPlace units s.unit s.pc
  frames : AreFrames units s.frames

-- an algorithm that stands at that place
abbrev nothing_in : {A : Type 0} → A → Held
nothing_in a = held.Plain cell.Empty

abbrev stand : List CodeUnit → ℕ → ℕ → Running
stand units unit pc = record { unit = unit; pc = pc; operands = []; slots = map nothing_in (unit_at units unit).slots; used = 0 }

map_length : {A B : Type 0} (f : A → B) (xs : List A) → length (map f xs) ≡ length xs
map_length f [] = refl
map_length f (x ∷ xs) = ap suc (map_length f xs)

entered : (units : List CodeUnit) (unit pc : ℕ) → slice_get units unit ≡ Some (unit_at units unit) → IsEntered units (stand units unit pc)
entered units unit pc h = record { unit = h; slots = map_length nothing_in (unit_at units unit).slots }

ready_there : (units : List CodeUnit) (unit : ℕ) → AllValid units → slice_get units unit ≡ Some (unit_at units unit) → IsReady (unit_at units unit)
ready_there units unit v h = ready units (unit_at units unit) (valid_here units (stand units unit 0) v (entered units unit 0 h))

-- ---- a run that is over from a state on

data Ends (units : List CodeUnit) (s : State) (n : ℕ) (ins : List Value) (rs : List Reply) : Type 0 where
  By : (j : ℕ) (t : Trace) → exec usual units j s n ins rs ≡ Some t → Ends units s n ins rs

data Meets (units : List CodeUnit) (v : Event) (n : ℕ) (ins : List Value) (rs : List Reply) : Type 0 where
  With : (j : ℕ) (t : Trace) → meet v (exec usual units j) n ins rs ≡ Some t → Meets units v n ins rs

ends : (units : List CodeUnit) (s : State) (v : Event) (n : ℕ) (ins : List Value) (rs : List Reply) → step usual units s ≡ v → Meets units v n ins rs → Ends units s n ins rs
ends units s v n ins rs h (With j t e) = By (suc j) t (ap (λ w. meet w (exec usual units j) n ins rs) h ∙ e)

go_on : (units : List CodeUnit) (m : State) (n : ℕ) (ins : List Value) (rs : List Reply) → Ends units m n ins rs → Meets units (Go m) n ins rs
go_on units m n ins rs (By j t e) = With j t e

tick_on : (units : List CodeUnit) (m : State) (n : ℕ) (ins : List Value) (rs : List Reply) → Ends units m n ins rs → Meets units (Tick m) (suc n) ins rs
tick_on units m n ins rs (By j t e) = With j t e

act_on : (units : List CodeUnit) (a : Act) (m : State) (n : ℕ) (ins : List Value) (rs : List Reply) → Ends units m n ins rs → Meets units (Does a m) n ins rs
act_on units a m n ins rs (By j t e) = With j (after_act a t) (ap (after_some a) e)

halt : (units : List CodeUnit) (e : RunState) (n : ℕ) (ins : List Value) (rs : List Reply) → Meets units (Halt e) n ins rs
halt units e n ins rs = With 0 (only e) refl

-- ---- the measure within a unit

most : (b : Bool) (n : ℕ) → (if b then 0 else n) ≤ n
most true n = omega arith
most false n = omega arith

further : (u : CodeUnit) (pc q : ℕ) → pc < length u.body → pc < q → is_step (slice_get u.body pc) ≡ false → before_step u q < before_step u pc
further u pc q within lt e =
    let here : before_step u pc ≡ suc (length u.body - pc) = ap (λ b. if b then 0 else suc (length u.body - pc)) e in
    let m = most (is_step (slice_get u.body q)) (suc (length u.body - q)) in
    omega (arith, here, m, within, lt)

at_step : (u : CodeUnit) (pc q : ℕ) → is_step (slice_get u.body pc) ≡ false → is_step (slice_get u.body q) ≡ true → before_step u q < before_step u pc
at_step u pc q e h =
    let here : before_step u pc ≡ suc (length u.body - pc) = ap (λ b. if b then 0 else suc (length u.body - pc)) e in
    let there : before_step u q ≡ 0 = ap (λ b. if b then 0 else suc (length u.body - q)) h in
    omega (arith, here, there)

-- ---- where an instruction leads

-- a state in valid code, and nearer to the next step
record Nearer (units : List CodeUnit) (s m : State) : Type 0 where
  state : IsState units m
  frames : m.frames ≡ s.frames
  falls : before_step (unit_at units m.unit) m.pc < before_step (unit_at units s.unit) s.pc

nearer_at : (units : List CodeUnit) (s m : State) → IsState units s → m.unit ≡ s.unit → m.frames ≡ s.frames → is_call (slice_get (unit_at units s.unit).body m.pc) ≡ false
    → before_step (unit_at units s.unit) m.pc < before_step (unit_at units s.unit) s.pc → Nearer units s m
nearer_at units s m h unit frames past falls = record {
  state = record { place = subst (λ k. IsPlace units k m.pc) (sym unit) (record { there = h.place.there; past = past }); frames = subst (AreFrames units) (sym frames) h.frames };
  frames = frames;
  falls = subst (λ k. before_step (unit_at units k) m.pc < before_step (unit_at units s.unit) s.pc) (sym unit) falls;
}

nearer : (units : List CodeUnit) (s m : State) (t : Option ℕ) → AllValid units → IsState units s → s.pc < length (unit_at units s.unit).body → is_step (slice_get (unit_at units s.unit).body s.pc) ≡ false
    → jump_fits (unit_at units s.unit).body s.pc t ≡ true → Stays s t m → Nearer units s m
nearer units s m t v h within no_step fits st =
    let u = unit_at units s.unit in
    let r = ready_there units s.unit v h.place.there in
    ⊎_elim
    (λ w.
    let lt : s.pc < m.pc = omega (arith, w) in
    nearer_at units s m h st.unit st.frames (subst (λ k. is_call (slice_get u.body k) ≡ false) (sym w) (no_call_behind u s.pc r no_step)) (further u s.pc m.pc within lt no_step))
    (λ w.
    let leads = subst (λ o. jump_fits u.body s.pc o ≡ true) w fits in
    nearer_at units s m h st.unit st.frames (no_call_there u.body s.pc m.pc leads)
    (⊎_elim (λ lt. further u s.pc m.pc within lt no_step) (λ at. at_step u s.pc m.pc no_step at) (lies_ahead u.body s.pc m.pc leads)))
    st.place

-- ---- calls and returns

of_call : (units : List CodeUnit) (b : Bool) (found : Result Begun RunFault) (line : ℕ) (k : Begun → State) (e : RunState) (n : ℕ) (ins : List Value) (rs : List Reply) → ((g : Begun) → Ends units (k g) n ins rs)
    → Meets units (if b then if_fine found line k else Halt e) n ins rs
of_call units true (Ok g) line k e n ins rs h = go_on units (k g) n ins rs (h g)
of_call units true (Err f) line k e n ins rs h = halt units (state.Fault line f) n ins rs
of_call units false found line k e n ins rs h = halt units e n ins rs

of_back : (units : List CodeUnit) (frames : List Frame) (params : List ParamSlot) (g : Slots) (value : List Value) (n : ℕ) (ins : List Value) (rs : List Reply)
    → ((f : Frame) (fs : List Frame) (m : State) → frames ≡ f ∷ fs → m.unit ≡ f.unit → m.pc ≡ f.pc → m.frames ≡ fs → Ends units m n ins rs) → Meets units (returns_to frames params g value) n ins rs
of_back units [] params g value n ins rs h = halt units state.Done n ins rs
of_back units (f ∷ fs) params g value n ins rs h = go_on units _ n ins rs (h f fs _ refl refl refl refl)

of_answer : (units : List CodeUnit) (found : Result Value RunFault) (line : ℕ) (k : List Value → Event) (n : ℕ) (ins : List Value) (rs : List Reply) → ((vs : List Value) → Meets units (k vs) n ins rs) → Meets units (with_answer found line k) n ins rs
of_answer units (Ok v) line k n ins rs h = h (v ∷ [])
of_answer units (Err f) line k n ins rs h = halt units (state.Fault line f) n ins rs

of_return : (units : List CodeUnit) (gives : Option ℕ) (params : List ParamSlot) (line : ℕ) (s : State) (n : ℕ) (ins : List Value) (rs : List Reply)
    → ((f : Frame) (fs : List Frame) (m : State) → s.frames ≡ f ∷ fs → m.unit ≡ f.unit → m.pc ≡ f.pc → m.frames ≡ fs → Ends units m n ins rs) → Meets units (leaves_unit gives params line s) n ins rs
of_return units None params line s n ins rs h = of_back units s.frames params s.slots [] n ins rs h
of_return units (Some x) params line s n ins rs h = of_answer units (given_back (cell_in (s.slots x))) line _ n ins rs (λ value. of_back units s.frames params s.slots value n ins rs h)

one_back : (k : ℕ) → k + 1 - 1 ≡ k
one_back k = omega arith

above : (k : ℕ) → 1 ≤ k + 1
above k = omega arith

call_at : (o : Option CodeLine) (line number : ℕ) (places : List CallPlace) → o ≡ Some (record { line = line; what = Call number places }) → IsCallAt o number places
call_at o line number places e = subst (λ x. IsCallAt x number places) (sym e) refl

call_line : (o : Option CodeLine) (line number : ℕ) (places : List CallPlace) → o ≡ Some (record { line = line; what = Call number places }) → is_call o ≡ true
call_line o line number places e = ap is_call e ∙ refl

-- behind a call: the unit that it enters, and the place where it goes on
called_state : (units : List CodeUnit) (m k : State) (line number : ℕ) (places : List CallPlace) (f : Frame) → AllValid units → slice_get units m.unit ≡ Some (unit_at units m.unit) → AreFrames units m.frames
    → slice_get (unit_at units m.unit).body m.pc ≡ Some (record { line = line; what = Call number places }) → k.unit ≡ number → k.pc ≡ 0 → k.frames ≡ f ∷ m.frames → f.unit ≡ m.unit → f.pc ≡ m.pc + 1 → IsState units k
called_state units m k line number places f v there frames at unit place waits its behind =
    let callee = callee_there units (stand units m.unit m.pc) m.pc number places v (entered units m.unit m.pc there) (call_at _ line number places at) in
    let goes_on = past_behind units (stand units m.unit (m.pc + 1)) v (record {
      entered = entered units m.unit (m.pc + 1) there;
      behind = above m.pc;
      call = ap (λ x. is_call (slice_get (unit_at units m.unit).body x)) (one_back m.pc) ∙ call_line _ line number places at;
    }) in
    let here : IsPlace units number 0 = record { there = callee; past = past_begin units (stand units number 0) v (entered units number 0 callee) refl } in
    let back : IsPlace units m.unit (m.pc + 1) = record { there = there; past = goes_on } in
    record {
      place = subst (λ x. IsPlace units x k.pc) (sym unit) (subst (λ x. IsPlace units number x) (sym place) here);
      frames = subst (AreFrames units) (sym waits) (subst (λ x. IsPlace units x f.pc) (sym its) (subst (λ x. IsPlace units m.unit x) (sym behind) back), frames);
    }

-- ---- by steps, then by the calls that wait, then by the places before the next step

Claim : List CodeUnit → ℕ → ℕ → Type 0
Claim units n k = (s : State) (ins : List Value) (rs : List Reply) → IsState units s → length s.frames ≤ k → Ends units s n ins rs

FewerSteps : List CodeUnit → ℕ → Type 0
FewerSteps units zero = Unit {0}
FewerSteps units (suc n) = (k : ℕ) → Claim units n k

FewerCalls : List CodeUnit → ℕ → ℕ → Type 0
FewerCalls units n zero = Unit {0}
FewerCalls units n (suc k) = Claim units n k

NearerStep : List CodeUnit → ℕ → State → Type 0
NearerStep units n s = (m : State) (ins : List Value) (rs : List Reply) → Nearer units s m → Ends units m n ins rs

same_length : {A : Type 0} (xs : List A) → length xs ≤ length xs
same_length xs = omega arith

-- one step fewer, where no call stands
step_fewer : (units : List CodeUnit) (n : ℕ) (m : State) (ins : List Value) (rs : List Reply) → FewerSteps units (suc n) → IsState units m → Ends units m n ins rs
unfolding FewerSteps Claim
step_fewer units n m ins rs fewer h = fewer (length m.frames) m ins rs h (same_length m.frames)

-- a call behind a step
call_behind : (units : List CodeUnit) (n : ℕ) (m : State) (l : CodeLine) (ins : List Value) (rs : List Reply) → AllValid units → FewerSteps units (suc n) → slice_get units m.unit ≡ Some (unit_at units m.unit) → AreFrames units m.frames
    → slice_get (unit_at units m.unit).body m.pc ≡ Some l → is_call (Some l) ≡ true → Ends units m n ins rs
call_behind units n m l ins rs v fewer there frames at call = go l.what l.line at call
  where
    go : (i : Instruction) (line : ℕ) → slice_get (unit_at units m.unit).body m.pc ≡ Some (record { line = line; what = i }) → is_call (Some (record { line = line; what = i })) ≡ true → Ends units m n ins rs
    go (Call number places) line e h =
        ends units m (enters_unit usual (unit_at units number) number places line m) n ins rs (ap (λ o. event_at usual units o m) e)
        (of_call units _ _ line _ _ n ins rs (λ g. step_fewer units n _ ins rs fewer (called_state units m _ line number places _ v there frames e refl refl refl refl refl)))
    go i line e h = absurd (let wrong : ⊥ = cc in wrong)

behind_step : (units : List CodeUnit) (n : ℕ) (m : State) (ins : List Value) (rs : List Reply) → AllValid units → FewerSteps units (suc n) → slice_get units m.unit ≡ Some (unit_at units m.unit) → AreFrames units m.frames
    → (o : Option CodeLine) → slice_get (unit_at units m.unit).body m.pc ≡ o → (b : Bool) → is_call o ≡ b → Ends units m n ins rs
behind_step units n m ins rs v fewer there frames o at false h = step_fewer units n m ins rs fewer (record { place = record { there = there; past = ap is_call at ∙ h }; frames = frames })
behind_step units n m ins rs v fewer there frames (Some l) at true h = call_behind units n m l ins rs v fewer there frames at h
behind_step units n m ins rs v fewer there frames None at true h = absurd (let wrong : ⊥ = cc in wrong)

-- a step
at_tick : (units : List CodeUnit) (n : ℕ) (s m : State) (ins : List Value) (rs : List Reply) → AllValid units → FewerSteps units n → IsState units s → m.unit ≡ s.unit → m.frames ≡ s.frames → Meets units (Tick m) n ins rs
at_tick units zero s m ins rs v fewer h unit frames = With 0 (only state.Going) refl
at_tick units (suc n) s m ins rs v fewer h unit frames =
    tick_on units m n ins rs
    (behind_step units n m ins rs v fewer (subst (λ k. slice_get units k ≡ Some (unit_at units k)) (sym unit) h.place.there) (subst (AreFrames units) (sym frames) h.frames)
    (slice_get (unit_at units m.unit).body m.pc) refl (is_call (slice_get (unit_at units m.unit).body m.pc)) refl)

-- a reply
at_reply : (units : List CodeUnit) (a : Act) (x : After) (n : ℕ) (ins : List Value) (rs : List Reply) → ((m : State) → x ≡ On m → Ends units m n ins rs) → (j : ℕ) × (t : Trace) × (after_some a (after_reply x (exec usual units j) n ins rs) ≡ Some t)
at_reply units a (Over e) n ins rs h = (0, after_act a (only e), refl)
at_reply units a (On m) n ins rs h = with_end (h m refl)
  where
    with_end : Ends units m n ins rs → (j : ℕ) × (t : Trace) × (after_some a (exec usual units j m n ins rs) ≡ Some t)
    with_end (By j t e) = (j, after_act a t, ap (after_some a) e)

at_ask : (units : List CodeUnit) (c : Command) (after : Reply → After) (n : ℕ) (ins : List Value) (rs : List Reply) → ((r : Reply) (m : State) (more : List Reply) → after r ≡ On m → Ends units m n ins more) → Meets units (Asks c after) n ins rs
at_ask units c after n ins [] h = With 0 (after_act (Sent c) (only state.Awaiting)) refl
at_ask units c after n ins (r ∷ rs) h = let x = at_reply units (Sent c) (after r) n ins rs (λ m e. h r m rs e) in With x.0 x.1 x.2

-- an input
at_value : (units : List CodeUnit) (found : Result Value RunFault) (line : ℕ) (k : Value → State) (n : ℕ) (ins : List Value) (rs : List Reply) → ((w : Value) → Ends units (k w) n ins rs)
    → (j : ℕ) × (t : Trace) × (after_input found line k (exec usual units j) n ins rs ≡ Some t)
at_value units (Err f) line k n ins rs h = (0, only (state.Fault line f), refl)
at_value units (Ok w) line k n ins rs h = with_end (h w)
  where
    with_end : Ends units (k w) n ins rs → (j : ℕ) × (t : Trace) × (exec usual units j (k w) n ins rs ≡ Some t)
    with_end (By j t e) = (j, t, e)

at_input : (units : List CodeUnit) (kind : Kind) (line : ℕ) (k : Value → State) (n : ℕ) (ins : List Value) (rs : List Reply) → ((w : Value) (more : List Value) → Ends units (k w) n more rs) → Meets units (Takes kind line k) n ins rs
at_input units kind line k n [] rs h = With 0 (only (state.Fault line NoInput)) refl
at_input units kind line k n (x ∷ ins) rs h = let y = at_value units (input_as kind x) line k n ins rs (λ w. h w ins) in With y.0 y.1 y.2

-- an event of an instruction that enters and leaves no algorithm, and is no step
by_event : (units : List CodeUnit) (n : ℕ) (s : State) (t : Option ℕ) (v : Event) (ins : List Value) (rs : List Reply) → AllValid units → FewerSteps units n → NearerStep units n s → IsState units s → s.pc < length (unit_at units s.unit).body
    → is_step (slice_get (unit_at units s.unit).body s.pc) ≡ false → jump_fits (unit_at units s.unit).body s.pc t ≡ true → Moves s t v → Meets units v n ins rs
unfolding Moves NearerStep
by_event units n s t (Go m) ins rs v fewer near h within no_step fits mv = go_on units m n ins rs (near m ins rs (nearer units s m t v h within no_step fits mv))
by_event units n s t (Tick m) ins rs v fewer near h within no_step fits mv = at_tick units n s m ins rs v fewer h mv.unit mv.frames
by_event units n s t (Does a m) ins rs v fewer near h within no_step fits mv = act_on units a m n ins rs (near m ins rs (nearer units s m t v h within no_step fits mv))
by_event units n s t (Asks c after) ins rs v fewer near h within no_step fits mv = at_ask units c after n ins rs (λ r m more e. near m ins more (nearer units s m None v h within no_step refl (mv r m e)))
by_event units n s t (Takes kind line k) ins rs v fewer near h within no_step fits mv = at_input units kind line k n ins rs (λ w more. near (k w) more rs (nearer units s (k w) None v h within no_step refl (mv w)))
by_event units n s t (Halt e) ins rs v fewer near h within no_step fits mv = halt units e n ins rs

-- a return
fewer_calls : (units : List CodeUnit) (n k : ℕ) (s : State) (f : Frame) (fs : List Frame) (m : State) (ins : List Value) (rs : List Reply) → FewerCalls units n k → IsState units s → length s.frames ≤ k
    → s.frames ≡ f ∷ fs → m.unit ≡ f.unit → m.pc ≡ f.pc → m.frames ≡ fs → Ends units m n ins rs
unfolding FewerCalls Claim
fewer_calls units zero_or k s f fs m ins rs fewer h le e unit pc frames = go k fewer le
  where
    waits : AreFrames units (f ∷ fs)
    waits = subst (AreFrames units) e h.frames

    here : IsState units m
    here = record { place = subst (λ x. IsPlace units x m.pc) (sym unit) (subst (λ x. IsPlace units f.unit x) (sym pc) waits.0); frames = subst (AreFrames units) (sym frames) waits.1 }

    count : length s.frames ≡ suc (length fs)
    count = ap length e

    go : (k : ℕ) → FewerCalls units zero_or k → length s.frames ≤ k → Ends units m zero_or ins rs
    go zero fewer le = absurd (let c = count in let wrong : ⊥ = omega (arith, c, le) in wrong)
    go (suc k) fewer le = fewer m ins rs here (let c = count in let w : length m.frames ≡ length fs = ap length frames in omega (arith, c, le, w))

-- ---- any state in valid code

-- an instruction that is no step, with its event
no_tick : (units : List CodeUnit) (n k : ℕ) (s : State) (i : Instruction) (line : ℕ) (ins : List Value) (rs : List Reply) → AllValid units → FewerSteps units n → FewerCalls units n k → NearerStep units n s → IsState units s
    → length s.frames ≤ k → slice_get (unit_at units s.unit).body s.pc ≡ Some (record { line = line; what = i }) → is_step (Some (record { line = line; what = i })) ≡ false → Ends units s n ins rs
no_tick units n k s Return line ins rs v fewer less near h le at no_step =
    ends units s (leaves_unit (unit_at units s.unit).gives (unit_at units s.unit).params line s) n ins rs (ap (λ o. event_at usual units o s) at)
    (of_return units (unit_at units s.unit).gives (unit_at units s.unit).params line s n ins rs (λ f fs m e unit pc frames. fewer_calls units n k s f fs m ins rs less h le e unit pc frames))
no_tick units n k s (Call number places) line ins rs v fewer less near h le at no_step = absurd (let past = sym h.place.past ∙ call_line _ line number places at in let wrong : ⊥ = cc in wrong)
no_tick units n k s i line ins rs v fewer less near h le at no_step =
    let u = unit_at units s.unit in
    ends units s (event_of usual units i line s) n ins rs (ap (λ o. event_at usual units o s) at)
    (by_event units n s (target_of i) (event_of usual units i line s) ins rs v fewer near h (slice_get_within u.body s.pc _ at) (ap is_step at ∙ no_step) ((ready_there units s.unit v h.place.there).jumps s.pc _ at) (moves units i line s refl))

a_step : (units : List CodeUnit) (n : ℕ) (s : State) (i : Instruction) (line : ℕ) (ins : List Value) (rs : List Reply) → AllValid units → FewerSteps units n → IsState units s
    → slice_get (unit_at units s.unit).body s.pc ≡ Some (record { line = line; what = i }) → is_step (Some (record { line = line; what = i })) ≡ true → Ends units s n ins rs
a_step units n s Step line ins rs v fewer h at step = ends units s (Tick (next s s.stack)) n ins rs (ap (λ o. event_at usual units o s) at) (at_tick units n s (next s s.stack) ins rs v fewer h refl refl)
a_step units n s i line ins rs v fewer h at step = absurd (let wrong : ⊥ = cc in wrong)

at_line : (units : List CodeUnit) (n k : ℕ) (s : State) (l : CodeLine) (ins : List Value) (rs : List Reply) → AllValid units → FewerSteps units n → FewerCalls units n k → NearerStep units n s → IsState units s
    → length s.frames ≤ k → slice_get (unit_at units s.unit).body s.pc ≡ Some l → (b : Bool) → is_step (Some l) ≡ b → Ends units s n ins rs
at_line units n k s l ins rs v fewer less near h le at true e = a_step units n s l.what l.line ins rs v fewer h at e
at_line units n k s l ins rs v fewer less near h le at false e = no_tick units n k s l.what l.line ins rs v fewer less near h le at e

at_place : (units : List CodeUnit) (n k : ℕ) (s : State) (ins : List Value) (rs : List Reply) → AllValid units → FewerSteps units n → FewerCalls units n k → NearerStep units n s → IsState units s
    → length s.frames ≤ k → (o : Option CodeLine) → slice_get (unit_at units s.unit).body s.pc ≡ o → Ends units s n ins rs
at_place units n k s ins rs v fewer less near h le None at = ends units s (Halt state.Done) n ins rs (ap (λ o. event_at usual units o s) at) (halt units state.Done n ins rs)
at_place units n k s ins rs v fewer less near h le (Some l) at = at_line units n k s l ins rs v fewer less near h le at (is_step (Some l)) refl

nothing_below : {P : Type 0} (n : ℕ) → n < 0 → P
nothing_below n lt = absurd (let wrong : ⊥ = omega (arith, lt) in wrong)

below : (m s b : ℕ) → m < s → s < suc b → m < b
below m s b p q = omega (arith, p, q)

within_unit : (units : List CodeUnit) (n k b : ℕ) → AllValid units → FewerSteps units n → FewerCalls units n k → (s : State) (ins : List Value) (rs : List Reply) → IsState units s → length s.frames ≤ k → before_step (unit_at units s.unit) s.pc < b
    → Ends units s n ins rs
unfolding NearerStep
within_unit units n k zero v fewer less s ins rs h le lt = nothing_below _ lt
within_unit units n k (suc b) v fewer less s ins rs h le lt =
    at_place units n k s ins rs v fewer less
    (λ m more left near. within_unit units n k b v fewer less m more left near.state (subst (λ fs. length fs ≤ k) (sym near.frames) le) (below _ _ b near.falls lt))
    h le (slice_get (unit_at units s.unit).body s.pc) refl

one_above : (n : ℕ) → n < suc n
one_above n = omega arith

by_calls : (units : List CodeUnit) (n : ℕ) → AllValid units → FewerSteps units n → (k : ℕ) → Claim units n k
unfolding Claim FewerCalls
by_calls units n v fewer zero s ins rs h le = within_unit units n 0 (suc (before_step (unit_at units s.unit) s.pc)) v fewer tt s ins rs h le (one_above _)
by_calls units n v fewer (suc k) s ins rs h le = within_unit units n (suc k) (suc (before_step (unit_at units s.unit) s.pc)) v fewer (by_calls units n v fewer k) s ins rs h le (one_above _)

by_steps : (units : List CodeUnit) → AllValid units → (n : ℕ) → FewerSteps units n
unfolding FewerSteps
by_steps units v zero = tt
by_steps units v (suc n) = by_calls units n v (by_steps units v n)

-- ---- the run

entry_state : (units : List CodeUnit) (entry : ℕ) → AllValid units → slice_get units entry ≡ Some (unit_at units entry) → IsState units (start entry)
entry_state units entry v there = record { place = record { there = there; past = past_begin units (stand units entry 0) v (entered units entry 0 there) refl }; frames = tt }

there_is : (units : List CodeUnit) (entry : ℕ) (o : Option CodeUnit) → slice_get units entry ≡ o → has_no_params o ≡ true → slice_get units entry ≡ Some (unit_at units entry)
there_is units entry None e h = absurd (let wrong : ⊥ = cc in wrong)
there_is units entry (Some u) e h = e ∙ ap Some (sym (ap unit_or e))

pub has_a_trace : HasATrace
unfolding Claim
has_a_trace code entry inputs replies steps valid is =
    let v = valid.each in
    let begin : has_no_params (slice_get code.units entry) ≡ true = subst (λ o. entry_fits code.units o ≡ true) is valid.begin in
    let there = there_is code.units entry (slice_get code.units entry) refl begin in
    as_run (by_calls code.units steps v (by_steps code.units v steps) 0 (start entry) inputs replies (entry_state code.units entry v there) (let le : 0 ≤ 0 = omega arith in le))
  where
    as_run : Ends code.units (start entry) steps inputs replies → (t : Trace) × CodeRun code.units entry inputs replies steps t
    as_run (By j t e) = (t, record { instructions = j; ends = e })
