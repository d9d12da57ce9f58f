-- What was carried out brings the run onward.
use Rattle.std.proofs.Common.{◌≡◌, ℕ, ◌+◌, List, [], ◌∷◌, Some, Err, refl, sym, ap, ◌∙◌, arith}
use Rattle.performer_kit.specs.declared.commands.Command.TheVariants.{Pen}
use Rattle.performer_kit.specs.declared.commands.Reply.{Reply}
use Rattle.kumir_tree.specs.declared.kind.Kind.{Kind}
use Rattle.kumir_values.specs.declared.value.Value.{Value}
use Rattle.kumir_values.specs.declared.run_end.RunFault.{RunFault}
use Rattle.kumir_values.specs.declared.run_end.RunFault.TheVariants.{NoInput}
use Rattle.kumir_values.specs.declared.run_end.EndKind.TheVariants as end
use Rattle.kumir_meaning.specs.Runs.{Printed, Sent, RunState, only, input_as, usual}
use Rattle.kumir_meaning.specs.Runs as state
use Rattle.stack_code.specs.declared.unit.CodeUnit.{CodeUnit}
use Rattle.stack_code.specs.CodeState.{State}
use Rattle.stack_code.specs.Instructions.{Event, Go, Tick, Does, Asks, Takes, Halt, step}
use Rattle.stack_code.specs.CodeRuns.{meet, exec, after_input}
use Rattle.machine_steps.specs.declared.acted.Acted.{Acted}
use Rattle.machine_steps.specs.declared.acted.Acted.TheVariants as did
use Rattle.machine_steps.specs.Acting.{Acts}
use Rattle.machine_steps.specs.Progress.{FullState, at, StepsTo}
use Rattle.machine_steps.specs.Carried.{EndsIn, Onward, CarriedStepsTo}
use Rattle.machine_steps.proofs.EventSteps.{steps_to_both, steps_to_go, steps_to_act}
use Rattle.machine_steps.proofs.EndsNeedNoStep.{halts_for_good, no_going_fault}

-- an event that ends the run, whatever is left
ends_at : (units : List CodeUnit) (a : FullState) (e : RunState) → (e ≡ state.Going → ⊥) → ((n : ℕ) (replies : List Reply) → meet (step usual units a.state) (exec usual units 0) n a.inputs replies ≡ Some (only e)) → EndsIn units a e
ends_at units a e other h = (other, λ n replies. (1, h n replies))

pub halted : (units : List CodeUnit) (a : FullState) (e : RunState) → step usual units a.state ≡ Halt e → EndsIn units a e
halted units a e h = ends_at units a e (halts_for_good units a.state e h) (λ n replies. ap (λ v. meet v (exec usual units 0) n a.inputs replies) h)

by_event : (units : List CodeUnit) (s new : State) (inputs : List Value) (v : Event) (acted : Acted) → step usual units s ≡ v → Acts v acted new → Onward units (at s inputs) acted (at new inputs)
by_event units s new inputs (Go m) did.Moved h e = steps_to_go units s new inputs (h ∙ ap Go (sym e))
by_event units s new inputs (Go m) (did.Printed t) h e = absurd e
by_event units s new inputs (Go m) (did.Told c) h e = absurd e
by_event units s new inputs (Go m) (did.Over k) h e = absurd e
by_event units s new inputs (Tick m) acted h e = absurd e
by_event units s new inputs (Does (Printed text) m) (did.Printed t) h e = steps_to_act units s new inputs (Printed t) (h ∙ ap (λ x. Does (Printed x) m) (sym e.0) ∙ ap (Does (Printed t)) (sym e.1))
by_event units s new inputs (Does (Printed text) m) did.Moved h e = absurd e.0
by_event units s new inputs (Does (Printed text) m) (did.Told c) h e = absurd e.0
by_event units s new inputs (Does (Printed text) m) (did.Over k) h e = absurd e.0
by_event units s new inputs (Does (Sent c) m) (did.Told p) h e = steps_to_act units s new inputs (Sent (Pen p)) (h ∙ ap (λ x. Does (Sent x) m) e.0 ∙ ap (Does (Sent (Pen p))) (sym e.1))
by_event units s new inputs (Does (Sent c) m) did.Moved h e = absurd e.0
by_event units s new inputs (Does (Sent c) m) (did.Printed t) h e = absurd e.0
by_event units s new inputs (Does (Sent c) m) (did.Over k) h e = absurd e.0
by_event units s new inputs (Asks c after) acted h e = absurd e
by_event units s new inputs (Takes kind line k) acted h e = absurd e
by_event units s new inputs (Halt end) (did.Over k) h e = (end, e, halted units (at s inputs) end h)
by_event units s new inputs (Halt end) did.Moved h e = absurd e
by_event units s new inputs (Halt end) (did.Printed t) h e = absurd e
by_event units s new inputs (Halt end) (did.Told c) h e = absurd e

pub carried_steps_to : CarriedStepsTo
carried_steps_to units s new inputs acted e = by_event units s new inputs (step usual units s) acted refl e

-- ---- stretches join

no_steps : (n : ℕ) → 0 + n ≡ n
no_steps n = omega arith

ends_before : (units : List CodeUnit) (a b : FullState) (e : RunState) → StepsTo units a 0 [] [] b → EndsIn units b e → EndsIn units a e
ends_before units a b e c h = (
  h.0,
  λ n replies.
      let u = h.1 n replies in
      let v = c.forth n replies u.0 (only e) u.1 in
      (v.0, ap (λ w. exec usual units v.0 a.state w a.inputs replies) (sym (no_steps n)) ∙ v.1),
)

pub onward_then : (units : List CodeUnit) (a b d : FullState) (acted : Acted) → StepsTo units a 0 [] [] b → Onward units b acted d → Onward units a acted d
onward_then units a b d did.Moved c o = steps_to_both units a b d 0 0 [] [] [] [] c o
onward_then units a b d (did.Printed t) c o = steps_to_both units a b d 0 0 [] [] [] (Printed t ∷ []) c o
onward_then units a b d (did.Told p) c o = steps_to_both units a b d 0 0 [] [] [] (Sent (Pen p) ∷ []) c o
onward_then units a b d (did.Over k) c o = (o.0, o.1, ends_before units a b o.0 c o.2)

-- ---- inputs

pub input_missing : (units : List CodeUnit) (s : State) (kind : Kind) (line : ℕ) (k : Value → State) (b : FullState) → step usual units s ≡ Takes kind line k
    → Onward units (at s []) (did.Over (end.Fault line NoInput)) b
input_missing units s kind line k b h = (state.Fault line NoInput, refl, ends_at units (at s []) (state.Fault line NoInput) (no_going_fault line NoInput) (λ n replies. ap (λ v. meet v (exec usual units 0) n [] replies) h))

pub input_refused : (units : List CodeUnit) (s : State) (kind : Kind) (line : ℕ) (k : Value → State) (v : Value) (inputs : List Value) (f : RunFault) (b : FullState) → step usual units s ≡ Takes kind line k → input_as kind v ≡ Err f
    → Onward units (at s (v ∷ inputs)) (did.Over (end.Fault line f)) b
input_refused units s kind line k v inputs f b h e = (
  state.Fault line f,
  refl,
  ends_at units (at s (v ∷ inputs)) (state.Fault line f) (no_going_fault line f)
      (λ n replies. ap (λ w. meet w (exec usual units 0) n (v ∷ inputs) replies) h ∙ ap (λ r. after_input r line k (exec usual units 0) n inputs replies) e),
)
