use Rattle.std.proofs.Common.{◌≡◌, drop, length}
use Rattle.stack_code.specs.Instructions.{copied_to_places}
use Rattle.machine_steps.specs.States.{slots_of}
use Rattle.machine_steps.proofs.returns.copy_out.Given as goal

abbrev pub invariant-loop-at : goal.invariant-loop-at
invariant-loop-at l = record {
  count : length l.slots ≡ length l.fn.slots;
  callee_count : length l.callee ≡ length l.fn.callee;
  copied : copied_to_places (drop l.at l.params) (drop l.at l.places) (slots_of l.callee) (slots_of l.slots) ≡ copied_to_places l.params l.places (slots_of l.fn.callee) (slots_of l.fn.slots);
}
