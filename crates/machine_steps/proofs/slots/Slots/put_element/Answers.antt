use Rattle.std.proofs.Common.{◌<◌, ◌∙◌, ap, subst, sym, length}
use Rattle.kumir_meaning.specs.Store.{with_element}
use Rattle.stack_code.specs.CodeState.{Plain, cell_in, with_slot}
use Rattle.machine_steps.specs.States.{slots_of}
use Rattle.machine_steps.proofs.WrittenSlots.{put_is, held_there}
use Rattle.machine_steps.proofs.slots.Slots.put_element.Goals as goal

pub returns-clause-slots : goal.returns-clause-slots
returns-clause-slots c =
    let all = c.self.inside.held.items in
    let there = subst (λ xs. c.args.slot < length xs) (sym c.self.view_is) c.requires in
    put_is all c.args.slot c.change_element.new.place there
    ∙ ap (with_slot (slots_of all) c.args.slot) (c.change_element.ensures ∙ ap (λ s. Plain (with_element (cell_in s) c.args.index.now c.args.value)) (sym (held_there all c.args.slot c.index_mut.result.now there c.index_mut.ensures.value)))
    ∙ ap (λ xs. with_slot (slots_of xs) c.args.slot (Plain (with_element (cell_in (slots_of xs c.args.slot)) c.args.index.now c.args.value))) c.self.view_is
