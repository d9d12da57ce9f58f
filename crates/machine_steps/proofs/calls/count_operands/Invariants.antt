use Rattle.std.proofs.Common.{◌≡◌, ◌+◌, ◌≤◌, drop}
use Rattle.stack_code.specs.Instructions.{values_taken}
use Rattle.machine_steps.proofs.calls.count_operands.Given as goal

abbrev pub invariant-loop-at : goal.invariant-loop-at
invariant-loop-at l = record {
  few : l.count ≤ l.at;
  counted : l.count + values_taken (drop l.at l.params) (drop l.at l.places) ≡ values_taken l.params l.places;
}
