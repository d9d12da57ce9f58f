-- Steps of a run, one after the other.
use Rattle.std.proofs.Common.{◌≡◌, ℕ, ◌+◌, ◌-◌, ◌<◌, false, List, [], ◌∷◌, length, get_or, drop, Option, Some, None, Result, Ok, Err, sym, ap, ◌∙◌, subst, arith}
use Rattle.std.specs.Prelude.{slice_get, IfNone, IfErr, All}
use Rattle.std.proofs.lemmas.Option.{slice_get-get_or}
use Rattle.std.proofs.lemmas.List.Elements.{All-nil}
use Rattle.performer_kit.specs.declared.commands.Command.TheVariants.{Pen}
use Rattle.kumir_values.specs.declared.run_end.EndKind.{EndKind}
use Rattle.kumir_meaning.specs.Runs.{Act, Printed, Sent, usual}
use Rattle.stack_code.specs.declared.instruction.CallPlace.{CallPlace}
use Rattle.stack_code.specs.declared.instruction.CodeLine.{CodeLine}
use Rattle.stack_code.specs.declared.instruction.Instruction.TheVariants as code
use Rattle.stack_code.specs.declared.unit.CodeUnit.{CodeUnit}
use Rattle.stack_code.specs.CodeRuns.{start}
use Rattle.stack_code.specs.Instructions.{unit_or, unit_at, enters_unit}
use Rattle.stack_code.specs.Validity.{is_call}
use Rattle.machine_steps.specs.declared.stage.Stage.{Stage}
use Rattle.machine_steps.specs.declared.stage.Stop.{Stop}
use Rattle.machine_steps.specs.declared.stage.Stop.TheVariants as stop
use Rattle.machine_steps.specs.declared.steps.Reached.{Reached}
use Rattle.machine_steps.specs.States.{state_of}
use Rattle.machine_steps.specs.Acting.{Acts, ended}
use Rattle.machine_steps.specs.Progress.{FullState, at, StepsTo}
use Rattle.machine_steps.specs.Carried.{Onward}
use Rattle.machine_steps.specs.Frames.{line_of, frames_of, state_in, IsCallAt, AllValid, IsEntered, IsPastCalls, Waits}
use Rattle.machine_steps.specs.Stages.{full_state_of, IsStage, NeedsStep, Stops, StaysStage}
use Rattle.machine_steps.specs.Reaching.{Reaches, IsBehindStep, Enters, as_reached, IsStageAt}
use Rattle.machine_steps.proofs.EventSteps.{steps_to_both}
use Rattle.machine_steps.proofs.ValidCalls.{past_begin}
use Rattle.machine_steps.proofs.StagesStay.{came_on}

no_more : (n taken : ℕ) → n ≡ taken → taken + 0 ≡ n
no_more n taken e = omega (arith, e)

-- behind so many steps
pub behind_steps : (units : List CodeUnit) (a b c : FullState) (n taken : ℕ) (acts : List Act) → n ≡ taken → StepsTo units a taken [] [] b → StepsTo units b 0 [] acts c → StepsTo units a n [] acts c
behind_steps units a b c n taken acts e p q = subst (λ k. StepsTo units a k [] acts c) (no_more n taken e) (steps_to_both units a b c taken 0 [] [] [] acts p q)

some_is : (x y : Reached) → Some x ≡ Some y → x ≡ y
some_is x y e = cc

pub stopped : (units : List CodeUnit) (a b : FullState) (n taken : ℕ) → n ≡ taken → StepsTo units a taken [] [] b → StepsTo units a n [] [] b
stopped units a b n taken e p = subst (λ k. StepsTo units a k [] [] b) (sym e) p

pub reach_at : (units : List CodeUnit) (a b c : FullState) (n taken : ℕ) (o : Stop) (r : Reached) → as_reached o ≡ Some r → n ≡ taken → StepsTo units a taken [] [] b → Stops units b o c → Reaches units a n r c
reach_at units a b c n taken (stop.Printed t) r e k p h = subst (λ x. Reaches units a n x c) (some_is _ r e) (behind_steps units a b c n taken (Printed t ∷ []) k p h)
reach_at units a b c n taken (stop.Told d) r e k p h = subst (λ x. Reaches units a n x c) (some_is _ r e) (behind_steps units a b c n taken (Sent (Pen d) ∷ []) k p h)
reach_at units a b c n taken (stop.Asks q) r e k p h = subst (λ x. Reaches units a n x c) (some_is _ r e) (behind_steps units a b c n taken [] k p h.0, h.1)
reach_at units a b c n taken (stop.Over end) r e k p h = subst (λ x. Reaches units a n x c) (some_is _ r e) (b, h.0, stopped units a b n taken k p, h.1, h.2)
reach_at units a b c n taken stop.Step r e k p h = absurd (let wrong : ⊥ = cc in wrong)

pub at_step : (units : List CodeUnit) (b c : FullState) (o : Stop) → as_reached o ≡ None → Stops units b o c → StepsTo units b 0 [] [] c × NeedsStep units c
at_step units b c (stop.Printed t) e h = absurd (let wrong : ⊥ = cc in wrong)
at_step units b c (stop.Told d) e h = absurd (let wrong : ⊥ = cc in wrong)
at_step units b c (stop.Asks q) e h = absurd (let wrong : ⊥ = cc in wrong)
at_step units b c (stop.Over end) e h = absurd (let wrong : ⊥ = cc in wrong)
at_step units b c stop.Step e h = h

pub stage_at : (units : List CodeUnit) (s : Stage) (o : Stop) (r : Reached) → as_reached o ≡ Some r → StaysStage units (Some o) s → IsStageAt units r s
stage_at units s (stop.Printed t) r e h = subst (λ x. IsStageAt units x s) (some_is _ r e) h
stage_at units s (stop.Told d) r e h = subst (λ x. IsStageAt units x s) (some_is _ r e) h
stage_at units s (stop.Asks q) r e h = subst (λ x. IsStageAt units x s) (some_is _ r e) h
stage_at units s (stop.Over end) r e h = subst (λ x. IsStageAt units x s) (some_is _ r e) tt
stage_at units s stop.Step r e h = absurd (let wrong : ⊥ = cc in wrong)

pub stage_at_step : (units : List CodeUnit) (s : Stage) (o : Stop) → as_reached o ≡ None → StaysStage units (Some o) s → IsStage units s
stage_at_step units s (stop.Printed t) e h = h
stage_at_step units s (stop.Told d) e h = h
stage_at_step units s (stop.Asks q) e h = h
stage_at_step units s (stop.Over end) e h = absurd (let wrong : ⊥ = cc in wrong)
stage_at_step units s stop.Step e h = h

-- the steps that were taken in a call
pub taken_now : (before now taken : ℕ) → now ≡ before + taken → now - before ≡ taken
taken_now before now taken e = omega (arith, e)

-- ---- the call behind a step

pub nothing_enters : (units : List CodeUnit) (s : Stage) (o : Option CodeLine) → IsBehindStep units s → line_of units s.running s.running.pc ≡ o → is_call o ≡ false → IsStage units s
nothing_enters units s o h e c = record { entered = h.entered; past = ap is_call e ∙ c; waits = h.waits }

pub call_there : (o : Option CodeLine) (l : CodeLine) (number : ℕ) (places : List CallPlace) → o ≡ Some l → l.what ≡ code.Call number places → IsCallAt o number places
call_there o l number places e h = subst (λ x. IsCallAt x number places) (sym e) h

as_enter : (units : List CodeUnit) (a b : FullState) (o : Option EndKind) → Onward units a (ended o) b → Enters units a o b
as_enter units a b None h = h
as_enter units a b (Some e) h = h

pub entered_so : (units : List CodeUnit) (s new : Stage) (l : CodeLine) (number : ℕ) (places : List CallPlace) (o : Option EndKind) → line_of units s.running s.running.pc ≡ Some l → l.what ≡ code.Call number places
    → Acts (enters_unit usual (unit_at units number) number places l.line (state_in units s.running s.waiting.items)) (ended o) (state_in units new.running new.waiting.items)
    → new.inputs ≡ s.inputs → new.taken ≡ s.taken → Enters units (full_state_of units s) o (full_state_of units new)
entered_so units s new l number places o e h acts i t =
    as_enter units (full_state_of units s) (full_state_of units new) o
    (came_on units s new (code.Call number places) l.line o (e ∙ ap (λ x. Some (record { line = l.line; what = x })) h) acts i t)

pub entered_stage : (units : List CodeUnit) (s : Stage) (o : Option EndKind) → IfNone o (IsEntered units s.running) → IfNone o (IsPastCalls units s.running) → IfNone o (All (Waits units) s.waiting.items) → IfNone o (IsStage units s)
entered_stage units s None e p w = record { entered = e; past = p; waits = w }
entered_stage units s (Some end) e p w = tt

-- what holds anyway holds of a refusal
pub whatever : {T E : Type 0} (r : Result T E) (P : Type 0) → P → IfErr r (λ e. P)
whatever (Ok x) P p = tt
whatever (Err e) P p = p

-- ---- the begin

entry_there : (units : List CodeUnit) (entry : ℕ) (u : CodeUnit) → entry < length units → u ≡ get_or units entry u → (slice_get units entry ≡ Some (unit_at units entry)) × (u ≡ unit_at units entry)
entry_there units entry u h e =
    let there = slice_get-get_or units entry u h in
    let same : unit_at units entry ≡ get_or units entry u = ap unit_or there in
    (there ∙ ap Some (sym same), e ∙ sym same)

pub begun_stage : (units : List CodeUnit) (s : Stage) (entry : ℕ) (u : CodeUnit) → AllValid units → entry < length units → u ≡ get_or units entry u → state_of s.running [] ≡ start entry
    → length s.running.slots ≡ length u.slots → s.waiting.items ≡ [] → IsStage units s
begun_stage units s entry u v h e begin count none =
    let there = entry_there units entry u h e in
    let unit : s.running.unit ≡ entry = ap (λ x. x.unit) begin in
    let entered : IsEntered units s.running = record {
      unit = ap (slice_get units) unit ∙ there.0 ∙ ap (λ k. Some (unit_at units k)) (sym unit);
      slots = count ∙ ap (λ x. length x.slots) there.1 ∙ ap (λ k. length (unit_at units k).slots) (sym unit);
    } in
    record {
      entered = entered;
      past = past_begin units s.running v entered (ap (λ x. x.pc) begin);
      waits = subst (All (Waits units)) (sym none) (All-nil (Waits units));
    }

pub begun_state : (units : List CodeUnit) (s : Stage) (entry : ℕ) → state_of s.running [] ≡ start entry → s.waiting.items ≡ [] → s.taken ≡ 0 → full_state_of units s ≡ at (start entry) s.inputs
begun_state units s entry begin none taken =
    ap (λ ws. at (state_of s.running (frames_of units ws)) (drop s.taken s.inputs)) none ∙ ap (λ n. at (state_of s.running []) (drop n s.inputs)) taken ∙ ap (λ x. at x s.inputs) begin
