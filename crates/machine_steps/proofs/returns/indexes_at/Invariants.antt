use Rattle.std.proofs.Common.{◌≡◌, map, take}
use Rattle.stack_code.specs.CodeState.{cell_in}
use Rattle.stack_code.specs.Instructions.{index_in}
use Rattle.machine_steps.specs.States.{slots_of}
use Rattle.machine_steps.proofs.returns.indexes_at.Given as goal

abbrev pub invariant-loop-slot : goal.invariant-loop-slot
invariant-loop-slot l = l.found.items ≡ map (λ h. index_in (cell_in (slots_of l.slots h))) (take l.slot-index l.hidden)
