use Rattle.std.proofs.Common.{◌≡◌, ◌≤◌, ◌+◌, ◌-◌, ◌*◌, List, length, false}
use Rattle.std.specs.Prelude.{slice_get}
use Rattle.stack_code.specs.Instructions.{unit_at}
use Rattle.stack_code.specs.Validity.{is_call}
use Rattle.stack_code.specs.declared.unit.CodeUnit.{CodeUnit}
use Rattle.machine_steps.specs.Quick.{at_place, ComesBy, NeedsBy}
use Rattle.machine_steps.specs.Silent.{before_step}
use Rattle.machine_steps.proofs.silent.run_quickly.Given as goal

abbrev pub invariant-loop-line : goal.invariant-loop-line
invariant-loop-line l = record {
  slots : length l.running.slots ≡ length l.fn.running.slots;
  unit : l.running.unit ≡ l.fn.running.unit;
  few : l.taken ≤ l.most;
  comes : (units : List CodeUnit) → unit_at units l.fn.running.unit ≡ l.unit → ComesBy units l.taken l.fn.running (at_place l.running l.pc);
  needed : (units : List CodeUnit) → unit_at units l.fn.running.unit ≡ l.unit → NeedsBy units l.taken l.fn.running;
  past : l.taken ≡ 0 → is_call (slice_get l.unit.body l.fn.running.pc) ≡ false → is_call (slice_get l.unit.body l.pc) ≡ false;
}

abbrev pub decreases-loop-line : goal.decreases-loop-line
decreases-loop-line l = (l.most - l.taken) * (length l.unit.body + 2) + before_step l.unit l.pc
