-- Instructions on the quick path.
use Rattle.std.specs.Prelude.{◌≡◌, ℕ, List, [], Option, MatchOption}
use Rattle.kumir_values.specs.declared.value.Value.{Value}
use Rattle.kumir_meaning.specs.Runs.{usual}
use Rattle.stack_code.specs.declared.instruction.Instruction.{Instruction}
use Rattle.stack_code.specs.declared.unit.CodeUnit.{CodeUnit}
use Rattle.stack_code.specs.CodeState.{State, Frame}
use Rattle.stack_code.specs.Instructions.{Event, unit_at, event_of}
use Rattle.machine_steps.specs.declared.acted.Acted.TheVariants as did
use Rattle.machine_steps.specs.declared.running.Running.{Running}
use Rattle.machine_steps.specs.Acting.{Carries}
use Rattle.machine_steps.specs.States.{state_of}
use Rattle.machine_steps.specs.Progress.{at, StepsTo}
use Rattle.machine_steps.specs.Reaching.{NeedsEach}

-- an algorithm at another place
abbrev pub at_place : Running → ℕ → Running
at_place r pc = record r { pc = pc }

-- the instruction goes on from the first to the second, on whichever line it stands and whichever calls wait
abbrev pub GoesTo : Instruction → Running → Running → Type 0
GoesTo what old new = (units : List CodeUnit) (line : ℕ) → Carries (λ frames. event_of usual units what line (state_of old frames)) did.Moved new

-- the instruction at that place goes on to the next one, or nothing has changed
abbrev pub GoesOrStays : Instruction → Running → ℕ → Option ℕ → Running → Type 0
GoesOrStays what old pc next new = MatchOption next (new ≡ old) (λ q. GoesTo what (at_place old pc) (at_place new q))

-- the event goes on to the next place, on whichever line, or nothing has changed
abbrev pub LeadsOrStays : (ℕ → State → Event) → Running → ℕ → Option ℕ → Running → Type 0
LeadsOrStays event old pc next new =
    MatchOption next (new ≡ old) (λ q. (line : ℕ) → Carries (λ frames. event line (state_of (at_place old pc) frames)) did.Moved (at_place new q))

-- so many steps lead from the first to the second, whichever calls wait and inputs are left
abbrev pub ComesBy : List CodeUnit → ℕ → Running → Running → Type 0
ComesBy units taken old new = (frames : List Frame) (inputs : List Value) → StepsTo units (at (state_of old frames) inputs) taken [] [] (at (state_of new frames) inputs)

-- and each of them is needed
abbrev pub NeedsBy : List CodeUnit → ℕ → Running → Type 0
NeedsBy units taken old = (frames : List Frame) (inputs : List Value) → NeedsEach units (at (state_of old frames) inputs) taken

-- the same in every program that has this unit there
abbrev pub ComesOn : CodeUnit → ℕ → Running → Running → Type 0
ComesOn u taken old new = (units : List CodeUnit) → unit_at units old.unit ≡ u → ComesBy units taken old new

abbrev pub NeedsOn : CodeUnit → ℕ → Running → Type 0
NeedsOn u taken old = (units : List CodeUnit) → unit_at units old.unit ≡ u → NeedsBy units taken old
