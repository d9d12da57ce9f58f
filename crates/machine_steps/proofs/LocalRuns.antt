-- Instructions of one algorithm, one after the other.
use Rattle.std.proofs.Common.{◌≡◌, true, List, [], Option, Some, None, Result, Ok, Err, refl, sym, ap, ◌∙◌, subst}
use Rattle.std.specs.Prelude.{slice_get, IfOk}
use Rattle.km_base.specs.declared.Memory.{Memory}
use Rattle.kumir_values.specs.declared.value.Value.{Value}
use Rattle.kumir_values.specs.declared.run_end.EndKind.TheVariants as end
use Rattle.kumir_meaning.specs.Runs as state
use Rattle.kumir_meaning.specs.Runs.{usual}
use Rattle.stack_code.specs.declared.instruction.CodeLine.{CodeLine}
use Rattle.stack_code.specs.declared.unit.CodeUnit.{CodeUnit}
use Rattle.stack_code.specs.CodeState.{Frame, State}
use Rattle.stack_code.specs.Instructions.{unit_at, event_of, event_at, step}
use Rattle.machine_steps.specs.declared.acted.Acted.{Acted}
use Rattle.machine_steps.specs.declared.acted.Acted.TheVariants as did
use Rattle.machine_steps.specs.declared.running.Running.{Running}
use Rattle.machine_steps.specs.States.{state_of}
use Rattle.machine_steps.specs.Acting.{Acts}
use Rattle.machine_steps.specs.Progress.{at, StepsTo}
use Rattle.machine_steps.specs.Carried.{Onward}
use Rattle.machine_steps.specs.Local.{is_local}
use Rattle.machine_steps.specs.Frames.{IsReady}
use Rattle.machine_steps.specs.Silent.{GoesOn, MovedToNonLocal, KeepsPast, KeepsUnit}
use Rattle.machine_steps.proofs.CarriedSteps.{halted, carried_steps_to, onward_then}
use Rattle.machine_steps.proofs.JumpsFit.{past_calls, same_unit}

pub step_is : (units : List CodeUnit) (u : CodeUnit) (o : Option CodeLine) (s : State) → unit_at units s.unit ≡ u → slice_get u.body s.pc ≡ o → step usual units s ≡ event_at usual units o s
step_is units u o s e at = ap (λ v. event_at usual units (slice_get v.body s.pc) s) e ∙ ap (λ o. event_at usual units o s) at

-- one more instruction
pub one_alone : (units : List CodeUnit) (u : CodeUnit) (l : CodeLine) (old mid new : Running) (acted : Acted) (frames : List Frame) (inputs : List Value) → unit_at units mid.unit ≡ u → slice_get u.body mid.pc ≡ Some l
    → StepsTo units (at (state_of old frames) inputs) 0 [] [] (at (state_of mid frames) inputs) → Acts (event_of usual units l.what l.line (state_of mid frames)) acted (state_of new frames)
    → Onward units (at (state_of old frames) inputs) acted (at (state_of new frames) inputs)
one_alone units u l old mid new acted frames inputs e there c h =
    onward_then units (at (state_of old frames) inputs) (at (state_of mid frames) inputs) (at (state_of new frames) inputs) acted c
    (carried_steps_to units (state_of mid frames) (state_of new frames) inputs acted (subst (λ v. Acts v acted (state_of new frames)) (sym (step_is units u (Some l) (state_of mid frames) e there)) h))

-- past the end of a body
pub end_alone : (units : List CodeUnit) (u : CodeUnit) (old mid new : Running) (frames : List Frame) (inputs : List Value) → unit_at units mid.unit ≡ u → slice_get u.body mid.pc ≡ None
    → StepsTo units (at (state_of old frames) inputs) 0 [] [] (at (state_of mid frames) inputs) → Onward units (at (state_of old frames) inputs) (did.Over end.Done) (at (state_of new frames) inputs)
end_alone units u old mid new frames inputs e there c =
    onward_then units (at (state_of old frames) inputs) (at (state_of mid frames) inputs) (at (state_of new frames) inputs) (did.Over end.Done) c
    (state.Done, refl, halted units (at (state_of mid frames) inputs) state.Done (step_is units u None (state_of mid frames) e there))

pub stands_not : (u : CodeUnit) (a : Acted) (r : Running) → (a ≡ did.Moved → ⊥) → MovedToNonLocal u a r
stands_not u did.Moved r h = absurd (h refl)
stands_not u (did.Printed text) r h = tt
stands_not u (did.Told command) r h = tt
stands_not u (did.Over end) r h = tt

pub keeps_past : (u : CodeUnit) (l : CodeLine) (old mid new : Running) (a : Acted) → IsReady u → slice_get u.body mid.pc ≡ Some l → is_local l.what ≡ true
    → Acts (event_of usual [] l.what l.line (state_of mid [])) a (state_of new []) → KeepsPast u a old new
keeps_past u l old mid new (did.Over end) r there h e = tt
keeps_past u l old mid new did.Moved r there h e = λ past. past_calls [] u l (state_of mid []) (state_of new []) did.Moved r there h refl e
keeps_past u l old mid new (did.Printed t) r there h e = λ past. past_calls [] u l (state_of mid []) (state_of new []) (did.Printed t) r there h refl e
keeps_past u l old mid new (did.Told p) r there h e = λ past. past_calls [] u l (state_of mid []) (state_of new []) (did.Told p) r there h refl e

pub keeps_unit : (l : CodeLine) (old mid new : Running) (a : Acted) → is_local l.what ≡ true → mid.unit ≡ old.unit → Acts (event_of usual [] l.what l.line (state_of mid [])) a (state_of new []) → KeepsUnit a old new
keeps_unit l old mid new (did.Over end) h m e = tt
keeps_unit l old mid new did.Moved h m e = same_unit [] l.what l.line (state_of mid []) (state_of new []) did.Moved h refl e ∙ m
keeps_unit l old mid new (did.Printed t) h m e = same_unit [] l.what l.line (state_of mid []) (state_of new []) (did.Printed t) h refl e ∙ m
keeps_unit l old mid new (did.Told p) h m e = same_unit [] l.what l.line (state_of mid []) (state_of new []) (did.Told p) h refl e ∙ m

-- behind instructions that show nothing
pub goes_behind : (o : Result Acted Memory) (u : CodeUnit) (old mid new : Running) → mid.unit ≡ old.unit
    → ((units : List CodeUnit) → unit_at units old.unit ≡ u → GoesOn units did.Moved old mid)
    → IfOk o (λ acted. (units : List CodeUnit) → unit_at units mid.unit ≡ u → GoesOn units acted mid new)
    → IfOk o (λ acted. (units : List CodeUnit) → unit_at units old.unit ≡ u → GoesOn units acted old new)
goes_behind (Ok acted) u old mid new e p h = λ units is frames inputs.
    onward_then units (at (state_of old frames) inputs) (at (state_of mid frames) inputs) (at (state_of new frames) inputs) acted (p units is frames inputs) (h units (ap (unit_at units) e ∙ is) frames inputs)
goes_behind (Err m) u old mid new e p h = h
