use Rattle.std.proofs.Common.{◌≡◌, ◌<◌, ◌∙◌, Ok, Some, ap, set, subst, sym, length}
use Rattle.std.proofs.lemmas.List.{set-get_or}
use Rattle.kumir_meaning.specs.Store.{checked, with_element}
use Rattle.stack_code.specs.CodeState.{Plain, cell_in, with_slot}
use Rattle.machine_steps.specs.States.{slots_of}
use Rattle.machine_steps.proofs.WrittenSlots.{put_is, held_there}
use Rattle.machine_steps.proofs.slots.Slots.set_element.Goals as goal

pub returns-clause-there : goal.returns-clause-there
returns-clause-there c = λ done.
    let all = c.self.inside.held.items in
    let there = subst (λ xs. c.args.slot < length xs) (sym c.self.view_is) c.requires in
    subst (λ xs. checked (cell_in (slots_of xs c.args.slot)) c.args.index.now ≡ Ok c.args.index.now) c.self.view_is
    (subst (λ s. checked (cell_in s) c.args.index.now ≡ Ok c.args.index.now) (sym (held_there all c.args.slot c.index_mut.result.now there c.index_mut.ensures.value)) (c.set_held.ensures.there done))

pub returns-clause-slots : goal.returns-clause-slots
returns-clause-slots c = λ done.
    let all = c.self.inside.held.items in
    let there = subst (λ xs. c.args.slot < length xs) (sym c.self.view_is) c.requires in
    put_is all c.args.slot c.set_held.new.place there
    ∙ ap (with_slot (slots_of all) c.args.slot) (c.set_held.ensures.set done ∙ ap (λ s. Plain (with_element (cell_in s) c.args.index.now (Some c.args.value))) (sym (held_there all c.args.slot c.index_mut.result.now there c.index_mut.ensures.value)))
    ∙ ap (λ xs. with_slot (slots_of xs) c.args.slot (Plain (with_element (cell_in (slots_of xs c.args.slot)) c.args.index.now (Some c.args.value)))) c.self.view_is

pub returns-clause-kept : goal.returns-clause-kept
returns-clause-kept c = λ refused.
    let all = c.self.inside.held.items in
    ap (set all c.args.slot) (c.set_held.ensures.kept refused ∙ c.index_mut.ensures.value) ∙ set-get_or all c.args.slot c.index_mut.result.now ∙ c.self.view_is
