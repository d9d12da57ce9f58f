use Rattle.std.proofs.Common.{◌≡◌, drop}
use Rattle.kumir_meaning.specs.Runs.{usual}
use Rattle.stack_code.specs.Instructions.{fills_slots}
use Rattle.machine_steps.specs.States.{slots_of}
use Rattle.machine_steps.specs.Calls.{IsSameBut}
use Rattle.machine_steps.proofs.calls.receive_all.Given as goal

abbrev pub invariant-loop-at : goal.invariant-loop-at
invariant-loop-at l = record {
  same : IsSameBut l.fn.begun l.begun;
  received : fills_slots usual.room (drop l.at l.params) (drop l.at l.places) l.left (slots_of l.slots) (slots_of l.begun.slots, l.begun.used)
      ≡ fills_slots usual.room l.params l.places l.values (slots_of l.slots) (slots_of l.fn.begun.slots, l.fn.begun.used);
}
