use Rattle.std.proofs.Common.{◌∙◌, ap}
use Rattle.kumir_meaning.specs.Store.{element}
use Rattle.stack_code.specs.CodeState.{cell_in}
use Rattle.machine_steps.specs.States.{slots_of}
use Rattle.machine_steps.proofs.PushedResults.{given_on}
use Rattle.machine_steps.proofs.tables.take_element.Goals as goal

pub returns-clause-acts : goal.returns-clause-acts
returns-clause-acts c =
    given_on _ _ c.args.running.now _ _ _ _ c.args.line
    (c.element_of_slot-got.ensures ∙ ap (element (cell_in (slots_of c.args.running.now.slots c.args.slot))) (c.as_slice.ensures ∙ c.in_ok-index.ensures))
    c.discard.ensures c.push_or_end.ensures.acts
