use Rattle.std.proofs.Common.{◌≡◌, List, length, false}
use Rattle.std.specs.Prelude.{slice_get}
use Rattle.stack_code.specs.Instructions.{unit_at}
use Rattle.stack_code.specs.Validity.{is_call}
use Rattle.stack_code.specs.declared.unit.CodeUnit.{CodeUnit}
use Rattle.machine_steps.specs.declared.acted.Acted.TheVariants as did
use Rattle.machine_steps.specs.Silent.{GoesOn, before_step}
use Rattle.machine_steps.proofs.silent.run_each.Given as goal

abbrev pub invariant-loop-line : goal.invariant-loop-line
invariant-loop-line l = record {
  slots : length l.running.slots ≡ length l.fn.running.slots;
  unit : l.running.unit ≡ l.fn.running.unit;
  goes : (units : List CodeUnit) → unit_at units l.fn.running.unit ≡ l.unit → GoesOn units did.Moved l.fn.running l.running;
  past : is_call (slice_get l.unit.body l.fn.running.pc) ≡ false → is_call (slice_get l.unit.body l.running.pc) ≡ false;
}

abbrev pub decreases-loop-line : goal.decreases-loop-line
decreases-loop-line l = before_step l.unit l.running.pc
