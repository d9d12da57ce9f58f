-- Steps that are needed.
use Rattle.std.proofs.Common.{◌≡◌, ℕ, ◌+◌, ◌-◌, ◌<◌, List, [], Some, sym, ap, ◌∙◌, subst, arith, ⊎_elim}
use Rattle.std.proofs.lemmas.Bool.{cases_lt}
use Rattle.kumir_meaning.specs.Runs.{Going, only, usual}
use Rattle.stack_code.specs.declared.unit.CodeUnit.{CodeUnit}
use Rattle.stack_code.specs.Instructions.{event_at}
use Rattle.stack_code.specs.CodeRuns.{meet, exec}
use Rattle.machine_steps.specs.Progress.{FullState, StepsTo}
use Rattle.machine_steps.specs.Stages.{NeedsStep}
use Rattle.machine_steps.specs.Reaching.{NeedsEach}

pub needs_only : (units : List CodeUnit) (b : FullState) → NeedsStep units b → exec usual units 1 b.state 0 b.inputs [] ≡ Some (only Going)
needs_only units b h = ap (λ o. meet (event_at usual units o b.state) (exec usual units 0) 0 b.inputs []) h.1

pub needs_none : (units : List CodeUnit) (a : FullState) → NeedsEach units a 0
needs_none units a n lt = absurd (let wrong : ⊥ = omega (arith, lt) in wrong)

-- with the steps taken so far
last_step : (units : List CodeUnit) (a m : FullState) (taken n : ℕ) → StepsTo units a taken [] [] m → NeedsStep units m → n ≡ taken → (j : ℕ) × (exec usual units j a.state n a.inputs [] ≡ Some (only Going))
last_step units a m taken n p h e =
    let v = p.forth 0 [] 1 (only Going) (needs_only units m h) in
    let z : n ≡ taken + 0 = omega (arith, e) in
    (v.0, ap (λ k. exec usual units v.0 a.state k a.inputs []) z ∙ v.1)

pub one_needed : (units : List CodeUnit) (a m : FullState) (taken : ℕ) → StepsTo units a taken [] [] m → NeedsStep units m → NeedsEach units a taken → NeedsEach units a (taken + 1)
one_needed units a m taken p h before n lt = ⊎_elim (λ less. before n less) (λ last. last_step units a m taken n p h (omega (arith, lt, last))) (cases_lt n taken)

pub so_needed : (units : List CodeUnit) (a : FullState) (n taken : ℕ) → n ≡ taken → NeedsEach units a taken → NeedsEach units a n
so_needed units a n taken e h = subst (NeedsEach units a) (sym e) h

-- behind steps that were needed
pub all_needed : (units : List CodeUnit) (a m : FullState) (taken more : ℕ) → StepsTo units a taken [] [] m → NeedsEach units a taken → NeedsEach units m more → NeedsEach units a (taken + more)
all_needed units a m taken more p before behind n lt = ⊎_elim (λ less. before n less) (λ not_less. later (n - taken) (omega (arith, lt, not_less)) (omega (arith, not_less))) (cases_lt n taken)
  where
    later : (k : ℕ) → k < more → n ≡ taken + k → (j : ℕ) × (exec usual units j a.state n a.inputs [] ≡ Some (only Going))
    later k w e =
        let ends = behind k w in
        let v = p.forth k [] ends.0 (only Going) ends.1 in
        (v.0, ap (λ l. exec usual units v.0 a.state l a.inputs []) e ∙ v.1)
