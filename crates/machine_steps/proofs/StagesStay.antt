-- Stages of a run.
use Rattle.std.proofs.Common.{◌≡◌, ℕ, suc, ◌+◌, ◌-◌, ◌<◌, true, false, List, [], ◌∷◌, length, drop, drop-cons, Option, Some, None, Ok, Err, refl, sym, ap, ◌∙◌, subst, arith}
use Rattle.std.specs.Prelude.{slice_get, nat_le, All, IfNone}
use Rattle.std.proofs.Math.ListN.{drop_of_length-le}
use Rattle.std.proofs.lemmas.Bool.Decides.{nat_tests}
use Rattle.std.proofs.lemmas.Option.{slice_get_within, get_or_from_slice_get, slice_get-get_or}
use Rattle.kumir_values.specs.declared.value.Value.TheVariants.{Truth}
use Rattle.kumir_tree.specs.declared.kind.Kind.{Kind}
use Rattle.kumir_values.specs.declared.value.Value.{Value}
use Rattle.kumir_values.specs.declared.run_end.RunFault.{RunFault}
use Rattle.kumir_values.specs.declared.run_end.RunFault.TheVariants.{NoInput}
use Rattle.kumir_values.specs.declared.run_end.EndKind.{EndKind}
use Rattle.kumir_values.specs.declared.run_end.EndKind.TheVariants as end
use Rattle.kumir_meaning.specs.Runs.{input_as, usual}
use Rattle.stack_code.specs.declared.instruction.CommandShape.TheVariants as shape
use Rattle.stack_code.specs.declared.instruction.CodeLine.{CodeLine}
use Rattle.stack_code.specs.declared.instruction.Instruction.{Instruction}
use Rattle.stack_code.specs.declared.instruction.Instruction.TheVariants as code
use Rattle.stack_code.specs.declared.unit.CodeUnit.{CodeUnit}
use Rattle.stack_code.specs.CodeState.{next}
use Rattle.stack_code.specs.Instructions.{unit_at, event_of, event_at, step}
use Rattle.stack_code.specs.Validity.{is_step, is_call}
use Rattle.machine_steps.specs.declared.acted.Acted.{Acted}
use Rattle.machine_steps.specs.declared.acted.Acted.TheVariants as did
use Rattle.machine_steps.specs.declared.running.Running.{Running}
use Rattle.machine_steps.specs.declared.stage.Stage.{Stage}
use Rattle.machine_steps.specs.declared.stage.Question.{Question}
use Rattle.machine_steps.specs.declared.stage.Stop.{Stop}
use Rattle.machine_steps.specs.declared.stage.Stop.TheVariants as stop
use Rattle.machine_steps.specs.Acting.{Acts, ended}
use Rattle.machine_steps.specs.Progress.{FullState, at, StepsTo}
use Rattle.machine_steps.specs.Carried.{Onward}
use Rattle.machine_steps.specs.Frames.{line_of, state_in, AllValid, IsEntered, IsPastCalls, Waits}
use Rattle.machine_steps.specs.declared.stops.NonLocal.TheVariants as non_local
use Rattle.machine_steps.specs.Silent.{IsAtNonLocal, KeepsPast, KeepsUnit}
use Rattle.machine_steps.specs.NonLocals.{IsNonLocalAt, IsLineAt, with_input}
use Rattle.machine_steps.specs.Stages.{full_state_of, IsStage, StopsOrGoesOn, StaysStage, as_stop, size_of}
use Rattle.machine_steps.proofs.EventSteps.{steps_to_input}
use Rattle.machine_steps.proofs.CarriedSteps.{carried_steps_to, onward_then, input_missing, input_refused}
use Rattle.machine_steps.proofs.JumpsFit.{goes_on, no_call_behind}
use Rattle.machine_steps.proofs.ValidCalls.{ready, valid_here}

-- what stands there is the next event
pub step_at : (units : List CodeUnit) (s : Stage) (i : Instruction) (line : ℕ) → IsLineAt units s.running i line
    → step usual units (full_state_of units s).state ≡ event_of usual units i line (full_state_of units s).state
step_at units s i line e = ap (λ o. event_at usual units o (full_state_of units s).state) e

-- ---- stretches join

pub turns_then : (units : List CodeUnit) (a b c : FullState) (o : Option Stop) → StepsTo units a 0 [] [] b → StopsOrGoesOn units b o c → StopsOrGoesOn units a o c
turns_then units a b c None p h = onward_then units a b c did.Moved p h
turns_then units a b c (Some (stop.Printed t)) p h = onward_then units a b c (did.Printed t) p h
turns_then units a b c (Some (stop.Told d)) p h = onward_then units a b c (did.Told d) p h
turns_then units a b c (Some (stop.Over e)) p h = onward_then units a b c (did.Over e) p h
turns_then units a b c (Some stop.Step) p h = (onward_then units a b c did.Moved p h.0, h.1)
turns_then units a b c (Some (stop.Asks q)) p h = (onward_then units a b c did.Moved p h.0, h.1)

-- ---- inputs

nothing_left : (xs : List Value) (n : ℕ) → slice_get xs n ≡ None → drop n xs ≡ []
nothing_left xs n e = elim (nat_le (length xs) n) as (λ b. nat_le (length xs) n ≡ b → drop n xs ≡ []) [
  | true ↦ λ h. drop_of_length-le xs {i = n} (grind (arith, nat_tests, h))
  | false ↦ λ h.
      let within : n < length xs = grind (arith, nat_tests, h) in
      go xs n e within
] refl
  where
    go : (xs : List Value) (n : ℕ) → slice_get xs n ≡ None → n < length xs → drop n xs ≡ []
    go xs n e h = absurd (let there = slice_get-get_or xs n (Truth false) h in let wrong : ⊥ = cc in wrong)

next_left : (xs : List Value) (n : ℕ) (v : Value) → slice_get xs n ≡ Some v → drop n xs ≡ v ∷ drop (n + 1) xs
next_left xs n v e =
    drop-cons xs n v (slice_get_within xs n v e) ∙ ap (λ w. w ∷ drop (suc n) xs) (get_or_from_slice_get xs n v v e) ∙ ap (λ k. v ∷ drop k xs) (one n)
  where
    one : (n : ℕ) → suc n ≡ n + 1
    one n = omega arith

pub input_none : (units : List CodeUnit) (s : Stage) (kind : Kind) (line : ℕ) (b : FullState) → IsLineAt units s.running (code.Input kind) line → slice_get s.inputs s.taken ≡ None
    → StopsOrGoesOn units (full_state_of units s) (Some (stop.Over (end.Fault line NoInput))) b
input_none units s kind line b there e =
    let now = (full_state_of units s).state in
    subst (λ xs. Onward units (at now xs) (did.Over (end.Fault line NoInput)) b) (sym (nothing_left s.inputs s.taken e)) (input_missing units now kind line (λ v. next now (v ∷ now.stack)) b (step_at units s (code.Input kind) line there))

pub input_other : (units : List CodeUnit) (s : Stage) (kind : Kind) (line : ℕ) (v : Value) (f : RunFault) (b : FullState) → IsLineAt units s.running (code.Input kind) line → slice_get s.inputs s.taken ≡ Some v → input_as kind v ≡ Err f
    → StopsOrGoesOn units (full_state_of units s) (Some (stop.Over (end.Fault line f))) b
input_other units s kind line v f b there e is =
    let now = (full_state_of units s).state in
    subst (λ xs. Onward units (at now xs) (did.Over (end.Fault line f)) b) (sym (next_left s.inputs s.taken v e))
    (input_refused units now kind line (λ w. next now (w ∷ now.stack)) v (drop (s.taken + 1) s.inputs) f b (step_at units s (code.Input kind) line there) is)

pub input_taken : (units : List CodeUnit) (s new : Stage) (kind : Kind) (line : ℕ) (v w : Value) → IsLineAt units s.running (code.Input kind) line → slice_get s.inputs s.taken ≡ Some v → input_as kind v ≡ Ok w → new ≡ with_input s w
    → StopsOrGoesOn units (full_state_of units s) None (full_state_of units new)
input_taken units s new kind line v w there e is n =
    let now = (full_state_of units s).state in
    subst (λ t. StepsTo units (full_state_of units s) 0 [] [] (full_state_of units t)) (sym n)
    (subst (λ xs. StepsTo units (at now xs) 0 [] [] (full_state_of units (with_input s w))) (sym (next_left s.inputs s.taken v e))
    (steps_to_input units now kind line (λ x. next now (x ∷ now.stack)) v w (drop (s.taken + 1) s.inputs) (step_at units s (code.Input kind) line there) is))

no_step_input : (kind : Kind) (line : ℕ) → is_step (Some (record { line = line; what = code.Input kind })) ≡ false
no_step_input kind line = refl

pub input_stage : (units : List CodeUnit) (s new : Stage) (kind : Kind) (line : ℕ) (w : Value) → AllValid units → IsStage units s → IsLineAt units s.running (code.Input kind) line → new ≡ with_input s w → IsStage units new
input_stage units s new kind line w v h there n = subst (IsStage units) (sym n) (record {
  entered = record { unit = h.entered.unit; slots = h.entered.slots };
  past = no_call_behind (unit_at units s.running.unit) s.running.pc (ready units (unit_at units s.running.unit) (valid_here units s.running v h.entered)) (ap is_step there ∙ no_step_input kind line);
  waits = h.waits;
})

one_less : (w n t : ℕ) → t < n → w + (n - (t + 1)) < w + (n - t)
one_less w n t h = omega (arith, h)

pub input_fewer : (s new : Stage) (v w : Value) → slice_get s.inputs s.taken ≡ Some v → new ≡ with_input s w → size_of new < size_of s
input_fewer s new v w e n = subst (λ t. size_of t < size_of s) (sym n) (one_less (length s.waiting.items) (length s.inputs) s.taken (slice_get_within s.inputs s.taken v e))

-- ---- returns

as_turn : (units : List CodeUnit) (a b : FullState) (o : Option EndKind) → Onward units a (ended o) b → StopsOrGoesOn units a (as_stop o) b
as_turn units a b None h = h
as_turn units a b (Some e) h = h

pub came_on : (units : List CodeUnit) (s new : Stage) (i : Instruction) (line : ℕ) (o : Option EndKind) → IsLineAt units s.running i line
    → Acts (event_of usual units i line (state_in units s.running s.waiting.items)) (ended o) (state_in units new.running new.waiting.items)
    → new.inputs ≡ s.inputs → new.taken ≡ s.taken → Onward units (full_state_of units s) (ended o) (full_state_of units new)
came_on units s new what line o there h i t =
    let now = (full_state_of units s).state in
    let then = (full_state_of units new).state in
    subst (λ xs. Onward units (full_state_of units s) (ended o) (at then xs)) (sym (ap (λ n. drop n new.inputs) t ∙ ap (drop s.taken) i))
    (carried_steps_to units now then (drop s.taken s.inputs) (ended o) (subst (λ v. Acts v (ended o) then) (sym (step_at units s what line there)) h))

pub came_back : (units : List CodeUnit) (s new : Stage) (line : ℕ) (o : Option EndKind) → IsLineAt units s.running code.Return line
    → Acts (event_of usual units code.Return line (state_in units s.running s.waiting.items)) (ended o) (state_in units new.running new.waiting.items)
    → new.inputs ≡ s.inputs → new.taken ≡ s.taken → StopsOrGoesOn units (full_state_of units s) (as_stop o) (full_state_of units new)
came_back units s new line o there h i t = as_turn units (full_state_of units s) (full_state_of units new) o (came_on units s new code.Return line o there h i t)

-- ---- one algorithm

alone_stage : (units : List CodeUnit) (s : Stage) (new : Running) → IsStage units s → (length new.slots ≡ length s.running.slots) → new.unit ≡ s.running.unit
    → is_call (line_of units s.running new.pc) ≡ false → IsStage units (record s { running = new })
alone_stage units s new h count unit past = record {
  entered = record {
    unit = ap (slice_get units) unit ∙ h.entered.unit ∙ ap (λ k. Some (unit_at units k)) (sym unit);
    slots = count ∙ h.entered.slots ∙ ap (λ k. length (unit_at units k).slots) (sym unit);
  };
  past = ap (λ k. is_call (slice_get (unit_at units k).body new.pc)) unit ∙ past;
  waits = h.waits;
}

pub back_stage : (units : List CodeUnit) (s : Stage) (o : Option EndKind) → IfNone o (IsEntered units s.running) → IfNone o (IsPastCalls units s.running) → IfNone o (All (Waits units) s.waiting.items) → StaysStage units (as_stop o) s
back_stage units s None e p w = record { entered = e; past = p; waits = w }
back_stage units s (Some end) e p w = tt

pub back_fewer : (s new : Stage) (o : Option EndKind) → IfNone o (length new.waiting.items < length s.waiting.items) → new.inputs ≡ s.inputs → new.taken ≡ s.taken → IfNone (as_stop o) (size_of new < size_of s)
back_fewer s new None h i t =
    let n : length new.inputs ≡ length s.inputs = ap length i in
    omega (arith, h, n, t)
back_fewer s new (Some end) h i t = tt

-- behind instructions of one algorithm
pub after_alone : (units : List CodeUnit) (s : Stage) (new : Running) (u : CodeUnit) (a : Acted) → goes_on a ≡ true → IsStage units s → u ≡ unit_at units s.running.unit
    → length new.slots ≡ length s.running.slots → KeepsUnit a s.running new → KeepsPast u a s.running new → IsStage units (record s { running = new })
after_alone units s new u (did.Over e) g h is n k p = absurd (let wrong : ⊥ = cc in wrong)
after_alone units s new u did.Moved g h is n k p =
    alone_stage units s new h n k (ap (λ v. is_call (slice_get v.body new.pc)) (sym is) ∙ p (ap (λ v. is_call (slice_get v.body s.running.pc)) is ∙ h.past))
after_alone units s new u (did.Printed t) g h is n k p =
    alone_stage units s new h n k (ap (λ v. is_call (slice_get v.body new.pc)) (sym is) ∙ p (ap (λ v. is_call (slice_get v.body s.running.pc)) is ∙ h.past))
after_alone units s new u (did.Told c) g h is n k p =
    alone_stage units s new h n k (ap (λ v. is_call (slice_get v.body new.pc)) (sym is) ∙ p (ap (λ v. is_call (slice_get v.body s.running.pc)) is ∙ h.past))

pub stands_there : (units : List CodeUnit) (old new : Running) (u : CodeUnit) → u ≡ unit_at units old.unit → new.unit ≡ old.unit → IsAtNonLocal u new.pc → IsAtNonLocal (unit_at units new.unit) new.pc
stands_there units old new u is k h = subst (λ v. IsAtNonLocal v new.pc) (is ∙ ap (unit_at units) (sym k)) h

pub step_next : (o : Option CodeLine) → IsNonLocalAt o non_local.Step → (line : ℕ) × (o ≡ Some (record { line = line; what = code.Step }))
step_next None h = absurd h
step_next (Some l) h = (l.line, ap (λ i. Some (record { line = l.line; what = i })) h)

pub asks_next : (o : Option CodeLine) (q : Question) → IsNonLocalAt o (non_local.Asks q) → o ≡ Some (record { line = q.line; what = code.Ask (shape.Robot q.command) })
asks_next None q h = absurd h
asks_next (Some l) q h = (λ k. Some (record { line = h.1 k; what = h.0 k }))
