-- What pushes a value does so whatever stood on top of it.
use Rattle.std.proofs.Common.{◌≡◌, ℕ, List, Result, Ok, Err, refl, subst}
use Rattle.std.specs.Prelude.{IfOk}
use Rattle.km_base.specs.declared.Memory.{Memory}
use Rattle.kumir_values.specs.declared.value.Value.{Value}
use Rattle.kumir_values.specs.declared.run_end.RunFault.{RunFault}
use Rattle.stack_code.specs.CodeState.{Frame}
use Rattle.stack_code.specs.Instructions.{pushes_result}
use Rattle.machine_steps.specs.declared.acted.Acted.{Acted}
use Rattle.machine_steps.specs.declared.running.Running.{Running}
use Rattle.machine_steps.specs.States.{state_of}
use Rattle.machine_steps.specs.Acting.{Carries, Acts}

abbrev pub with_operands : Running → List Value → Running
with_operands r xs = record { unit = r.unit; pc = r.pc; operands = xs; slots = r.slots; used = r.used }

stack_is_gone : (got : Result Value RunFault) (line : ℕ) (r : Running) (xs stack : List Value) (frames : List Frame) → pushes_result got line (state_of (with_operands r xs) frames) stack ≡ pushes_result got line (state_of r frames) stack
stack_is_gone (Ok v) line r xs stack frames = refl
stack_is_gone (Err fault) line r xs stack frames = refl

one_given : (a : Acted) (new r : Running) (xs stack : List Value) (got got1 : Result Value RunFault) (line : ℕ) → got ≡ got1 → xs ≡ stack
    → Carries (λ f. pushes_result got line (state_of (with_operands r xs) f) xs) a new → Carries (λ f. pushes_result got1 line (state_of r f) stack) a new
one_given a new r xs stack got got1 line e d h frames =
    subst (λ g. Acts (pushes_result g line (state_of r frames) stack) a (state_of new frames)) e
    (subst (λ l. Acts (pushes_result got line (state_of r frames) l) a (state_of new frames)) d
    (subst (λ v. Acts v a (state_of new frames)) (stack_is_gone got line r xs xs frames) (h frames)))

pub given_on : (o : Result Acted Memory) (new r : Running) (xs stack : List Value) (got got1 : Result Value RunFault) (line : ℕ) → got ≡ got1 → xs ≡ stack
    → IfOk o (λ a. Carries (λ f. pushes_result got line (state_of (with_operands r xs) f) xs) a new) → IfOk o (λ a. Carries (λ f. pushes_result got1 line (state_of r f) stack) a new)
given_on (Ok a) new r xs stack got got1 line e d h = one_given a new r xs stack got got1 line e d h
given_on (Err m) new r xs stack got got1 line e d h = h
