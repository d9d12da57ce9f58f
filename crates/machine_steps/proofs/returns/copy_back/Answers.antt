use Rattle.stack_code.specs.CodeState.{cell_in}
use Rattle.machine_steps.specs.States.{slots_of}
use Rattle.machine_steps.proofs.CopiedOut.{element_copied}
use Rattle.machine_steps.proofs.returns.copy_back.Goals as goal

pub returns-in_ok-copy_to_element-in-Element-clause-copied : goal.returns-in_ok-copy_to_element-in-Element-clause-copied
returns-in_ok-copy_to_element-in-Element-clause-copied c =
    element_copied (slots_of c.copy_to_element.new.slots) (slots_of c.args.slots.now) c.in-Element.own _ _ _ c.args.place.now (cell_in (slots_of c.args.callee.now c.args.slot))
    c.in_ok-copy_to_element-in-Element.ensures.slots c.as_slice.ensures c.value_of-in-Element.ensures c.in-Element.is
