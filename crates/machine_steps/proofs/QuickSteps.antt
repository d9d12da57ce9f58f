-- Instructions on the quick path.
use Rattle.std.proofs.Common.{◌≡◌, ℕ, List, Option, Some, None, Ok, sym, subst}
use Rattle.kumir_values.specs.declared.value.Value.{Value}
use Rattle.kumir_meaning.specs.Store.{read}
use Rattle.kumir_meaning.specs.Runs.{usual}
use Rattle.stack_code.specs.declared.instruction.Instruction.{Instruction}
use Rattle.stack_code.specs.declared.instruction.Instruction.TheVariants as code
use Rattle.stack_code.specs.declared.unit.CodeUnit.{CodeUnit}
use Rattle.stack_code.specs.CodeState.{State, cell_in}
use Rattle.stack_code.specs.Instructions.{Event, pushes_result, event_of}
use Rattle.machine_steps.specs.declared.acted.Acted.TheVariants as did
use Rattle.machine_steps.specs.declared.running.Running.{Running}
use Rattle.machine_steps.specs.States.{state_of, slots_of}
use Rattle.machine_steps.specs.Acting.{Acts}
use Rattle.machine_steps.specs.Quick.{at_place, GoesTo, GoesOrStays, LeadsOrStays}

-- the value of a slot is pushed as any value is
pub loaded : (o : Option ℕ) (old new : Running) (pc slot : ℕ) (v : Value) → Ok v ≡ read (cell_in (slots_of old.slots slot)) → GoesOrStays (code.Push v) old pc o new → GoesOrStays (code.Load slot) old pc o new
loaded None old new pc slot v e h = h
loaded (Some q) old new pc slot v e h = λ units line frames. subst (λ r. Acts (pushes_result r line (state_of (at_place old pc) frames) old.operands) did.Moved (state_of (at_place new q) frames)) e (h units line frames)

-- what an instruction is, it does
pub so_goes : (i j : Instruction) (old new : Running) → i ≡ j → GoesTo j old new → GoesTo i old new
so_goes i j old new e h = subst (λ w. GoesTo w old new) (sym e) h

pub so_stays : (i j : Instruction) (o : Option ℕ) (old new : Running) (pc : ℕ) → i ≡ j → GoesOrStays j old pc o new → GoesOrStays i old pc o new
so_stays i j o old new pc e h = subst (λ w. GoesOrStays w old pc o new) (sym e) h

of_event : (event : ℕ → State → Event) (j : Instruction) (o : Option ℕ) (old new : Running) (pc : ℕ)
    → ((units : List CodeUnit) (line : ℕ) (s : State) → event line s ≡ event_of usual units j line s) → LeadsOrStays event old pc o new → GoesOrStays j old pc o new
of_event event j None old new pc same h = h
of_event event j (Some q) old new pc same h = λ units line frames. subst (λ v. Acts v did.Moved (state_of (at_place new q) frames)) (same units line (state_of (at_place old pc) frames)) (h line frames)

-- an instruction that is an operator or a built-in algorithm
pub so_leads : (event : ℕ → State → Event) (i j : Instruction) (o : Option ℕ) (old new : Running) (pc : ℕ)
    → i ≡ j → ((units : List CodeUnit) (line : ℕ) (s : State) → event line s ≡ event_of usual units j line s) → LeadsOrStays event old pc o new → GoesOrStays i old pc o new
so_leads event i j o old new pc e same h = so_stays i j o old new pc e (of_event event j o old new pc same h)
