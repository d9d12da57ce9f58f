use Rattle.std.proofs.Common.{◌∙◌, ap}
use Rattle.kumir_meaning.specs.Store.{with_element}
use Rattle.stack_code.specs.CodeState.{Plain, with_slot, cell_in}
use Rattle.machine_steps.specs.States.{slots_of}
use Rattle.machine_steps.proofs.returns.copy_to_element.Goals as goal

pub returns-clause-slots : goal.returns-clause-slots
returns-clause-slots c =
    c.put_element.ensures.slots
    ∙ ap (λ i. with_slot (slots_of c.args.slots.now) c.args.own (Plain (with_element (cell_in (slots_of c.args.slots.now c.args.own)) i c.args.value))) (c.as_slice.ensures ∙ c.in_ok-index.ensures)
