-- Entering an algorithm.
use Rattle.std.specs.Prelude.{◌≡◌, ℕ, [], length, Result, Ok, Err}
use Rattle.kumir_values.specs.declared.run_end.RunFault.{RunFault}
use Rattle.stack_code.specs.Instructions.{Begun}
use Rattle.machine_steps.specs.declared.running.Running.{Running}
use Rattle.machine_steps.specs.States.{slots_of}

-- a parameter was given what the definition gives it, or has its fault
abbrev pub Receives : Result Begun RunFault → Result (Unit {0}) RunFault → Running → Type 0
Receives (Ok g) (Ok u) new = g ≡ (slots_of new.slots, new.used)
Receives (Ok g) (Err f) new = ⊥
Receives (Err f) (Ok u) new = ⊥
Receives (Err f) (Err g) new = g ≡ f

-- only what the slots hold and the elements in use are another
pub record IsSameBut (old new : Running) : Type 0 where
  pub count : length new.slots ≡ length old.slots
  pub unit : new.unit ≡ old.unit
  pub place : new.pc ≡ old.pc
  pub operands : new.operands ≡ old.operands

-- the algorithm of this unit, which has so many slots, begins as the definition says, or the call has its fault
abbrev pub BeginsAs : Result Begun RunFault → Result Running RunFault → ℕ → ℕ → Type 0
BeginsAs (Ok g) (Ok new) number slots =
    (new.unit ≡ number) × (new.pc ≡ 0) × (new.operands ≡ []) × (g ≡ (slots_of new.slots, new.used)) × (length new.slots ≡ slots)
BeginsAs (Ok g) (Err f) number slots = ⊥
BeginsAs (Err f) (Ok new) number slots = ⊥
BeginsAs (Err f) (Err g) number slots = g ≡ f
