-- Runs on the quick path.
use Rattle.std.proofs.Common.{◌≡◌, ℕ, ◌+◌, ◌-◌, ◌*◌, ◌<◌, ◌≤◌, List, [], length, Some, refl, sym, ap, ◌∙◌, subst, arith}
use Rattle.std.specs.Prelude.{slice_get}
use Rattle.std.proofs.Math.Nat.{add-mul}
use Rattle.kumir_values.specs.declared.value.Value.{Value}
use Rattle.kumir_meaning.specs.Runs.{usual}
use Rattle.stack_code.specs.declared.instruction.CodeLine.{CodeLine}
use Rattle.stack_code.specs.declared.instruction.Instruction.TheVariants as code
use Rattle.stack_code.specs.declared.unit.CodeUnit.{CodeUnit}
use Rattle.stack_code.specs.CodeState.{Frame}
use Rattle.stack_code.specs.Instructions.{unit_at, event_of, event_at}
use Rattle.machine_steps.specs.declared.acted.Acted.TheVariants as did
use Rattle.machine_steps.specs.declared.running.Running.{Running}
use Rattle.machine_steps.specs.Acting.{Acts}
use Rattle.machine_steps.specs.States.{state_of}
use Rattle.machine_steps.specs.Progress.{at, StepsTo}
use Rattle.machine_steps.specs.Quick.{at_place, ComesBy, NeedsBy}
use Rattle.machine_steps.specs.Silent.{IsAtStep, before_step}
use Rattle.machine_steps.specs.Frames.{IsEntered}
use Rattle.machine_steps.specs.Stages.{NeedsStep}
use Rattle.machine_steps.specs.Reaching.{stepped, NeedsEach}
use Rattle.machine_steps.proofs.EventSteps.{steps_to_none, steps_to_both, steps_to_tick}
use Rattle.machine_steps.proofs.CarriedSteps.{carried_steps_to}
use Rattle.machine_steps.proofs.JumpsFit.{before_most}
use Rattle.machine_steps.proofs.LocalRuns.{step_is}
use Rattle.machine_steps.proofs.NeededSteps.{needs_none, one_needed, all_needed}

pub step_stands : (u : CodeUnit) (pc : ℕ) (l : CodeLine) → slice_get u.body pc ≡ Some l → l.what ≡ code.Step → IsAtStep u pc
step_stands u pc l e h = (l.line, e ∙ ap (λ i. Some (record { line = l.line; what = i })) h)

needs_here : (units : List CodeUnit) (u : CodeUnit) (r : Running) (pc : ℕ) (frames : List Frame) (inputs : List Value) → unit_at units r.unit ≡ u → IsAtStep u pc → NeedsStep units (at (state_of (at_place r pc) frames) inputs)
needs_here units u r pc frames inputs e h = (h.0, ap (λ v. slice_get v.body pc) e ∙ h.1)

ticks : (units : List CodeUnit) (r : Running) (pc : ℕ) (frames : List Frame) (inputs : List Value) → NeedsStep units (at (state_of (at_place r pc) frames) inputs)
    → StepsTo units (at (state_of (at_place r pc) frames) inputs) 1 [] [] (at (state_of (at_place r (pc + 1)) frames) inputs)
ticks units r pc frames inputs h =
    steps_to_tick units (state_of (at_place r pc) frames) (state_of (at_place r (pc + 1)) frames) inputs (ap (λ o. event_at usual units o (state_of (at_place r pc) frames)) h.1)

-- a step more
pub one_more : (units : List CodeUnit) (u : CodeUnit) (old mid : Running) (pc taken : ℕ) → unit_at units mid.unit ≡ u → IsAtStep u pc → ComesBy units taken old (at_place mid pc) → ComesBy units (taken + 1) old (at_place mid (pc + 1))
one_more units u old mid pc taken e h p = λ frames inputs.
    steps_to_both units (at (state_of old frames) inputs) (at (state_of (at_place mid pc) frames) inputs) (at (state_of (at_place mid (pc + 1)) frames) inputs) taken 1 [] [] [] [] (p frames inputs)
    (ticks units mid pc frames inputs (needs_here units u mid pc frames inputs e h))

pub one_more_needed : (units : List CodeUnit) (u : CodeUnit) (old mid : Running) (pc taken : ℕ) → unit_at units mid.unit ≡ u → IsAtStep u pc → ComesBy units taken old (at_place mid pc) → NeedsBy units taken old → NeedsBy units (taken + 1) old
one_more_needed units u old mid pc taken e h p before = λ frames inputs.
    one_needed units (at (state_of old frames) inputs) (at (state_of (at_place mid pc) frames) inputs) taken (p frames inputs) (needs_here units u mid pc frames inputs e h) (before frames inputs)

-- an instruction more
pub comes_on : (units : List CodeUnit) (u : CodeUnit) (l : CodeLine) (old mid new : Running) (taken : ℕ) → unit_at units mid.unit ≡ u → slice_get u.body mid.pc ≡ Some l → ComesBy units taken old mid
    → ((frames : List Frame) → Acts (event_of usual units l.what l.line (state_of mid frames)) did.Moved (state_of new frames)) → ComesBy units taken old new
comes_on units u l old mid new taken e there p goes = λ frames inputs.
    subst (λ k. StepsTo units (at (state_of old frames) inputs) k [] [] (at (state_of new frames) inputs)) (none_more taken)
    (steps_to_both units (at (state_of old frames) inputs) (at (state_of mid frames) inputs) (at (state_of new frames) inputs) taken 0 [] [] [] [] (p frames inputs)
    (carried_steps_to units (state_of mid frames) (state_of new frames) inputs did.Moved (subst (λ v. Acts v did.Moved (state_of new frames)) (sym (step_is units u (Some l) (state_of mid frames) e there)) (goes frames))))
  where
    none_more : (n : ℕ) → n + 0 ≡ n
    none_more n = omega arith

-- ---- the measure

less : (p n x y z : ℕ) → x < n → z ≡ p + n → p + x < z + y
less p n x y z h e = omega (arith, h, e)

one_times : (k n : ℕ) → (k + 1) * n ≡ k * n + n
one_times k n = let e = add-mul k 1 n in omega (arith, e)

pub fewer_left : (u : CodeUnit) (most taken pc q : ℕ) → taken ≤ most → (taken ≡ most → ⊥)
    → (most - (taken + 1)) * (length u.body + 2) + before_step u q < (most - taken) * (length u.body + 2) + before_step u pc
fewer_left u most taken pc q few other =
    let m = before_most u q in
    let k = most - (taken + 1) in
    let n = length u.body + 2 in
    let e : most - taken ≡ most - (taken + 1) + 1 = omega (arith, few, other) in
    less (k * n) n (before_step u q) (before_step u pc) ((most - taken) * n) (omega (arith, m)) (ap (λ z. z * n) e ∙ one_times k n)

pub as_many_left : (p x y : ℕ) → x < y → p + x < p + y
as_many_left p x y h = omega (arith, h)

-- ---- the step that stands there comes first

step_then : (more : ℕ) → 1 + more ≡ more + 1
step_then more = omega arith

here : (units : List CodeUnit) (r : Running) (frames : List Frame) (inputs : List Value) → IsAtStep (unit_at units r.unit) r.pc → NeedsStep units (at (state_of r frames) inputs)
here units r frames inputs h = needs_here units (unit_at units r.unit) r r.pc frames inputs refl h

tick_to : (units : List CodeUnit) (old mid : Running) (frames : List Frame) (inputs : List Value) → IsAtStep (unit_at units old.unit) old.pc → mid ≡ stepped old
    → StepsTo units (at (state_of old frames) inputs) 1 [] [] (at (state_of mid frames) inputs)
tick_to units old mid frames inputs h e =
    subst (λ r. StepsTo units (at (state_of old frames) inputs) 1 [] [] (at (state_of r frames) inputs)) (sym e) (ticks units old old.pc frames inputs (here units old frames inputs h))

pub step_first : (units : List CodeUnit) (old mid new : Running) (more : ℕ) → IsAtStep (unit_at units old.unit) old.pc → mid ≡ stepped old → ComesBy units more mid new → ComesBy units (more + 1) old new
step_first units old mid new more h e p = λ frames inputs.
    subst (λ k. StepsTo units (at (state_of old frames) inputs) k [] [] (at (state_of new frames) inputs)) (step_then more)
    (steps_to_both units (at (state_of old frames) inputs) (at (state_of mid frames) inputs) (at (state_of new frames) inputs) 1 more [] [] [] [] (tick_to units old mid frames inputs h e) (p frames inputs))

pub step_first_needed : (units : List CodeUnit) (old mid : Running) (more : ℕ) → IsAtStep (unit_at units old.unit) old.pc → mid ≡ stepped old → NeedsBy units more mid → NeedsBy units (more + 1) old
step_first_needed units old mid more h e needs = λ frames inputs.
    let a = at (state_of old frames) inputs in
    subst (NeedsEach units a) (step_then more)
    (all_needed units a (at (state_of mid frames) inputs) 1 more (tick_to units old mid frames inputs h e) (one_needed units a a 0 (steps_to_none units a) (here units old frames inputs h) (needs_none units a)) (needs frames inputs))

pub still_entered : (units : List CodeUnit) (old new : Running) → IsEntered units old → new.unit ≡ old.unit → length new.slots ≡ length old.slots → IsEntered units new
still_entered units old new h unit count = record {
  unit = ap (slice_get units) unit ∙ h.unit ∙ ap (λ k. Some (unit_at units k)) (sym unit);
  slots = count ∙ h.slots ∙ ap (λ k. length (unit_at units k).slots) (sym unit);
}
