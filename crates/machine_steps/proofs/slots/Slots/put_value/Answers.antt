use Rattle.std.proofs.Common.{◌<◌, ◌∙◌, ap, subst, sym, set, length}
use Rattle.kumir_meaning.specs.Store.{Has}
use Rattle.stack_code.specs.CodeState.{Plain, with_slot}
use Rattle.machine_steps.specs.declared.held.Cell.TheVariants as cell
use Rattle.machine_steps.specs.declared.held.Held.TheVariants as held
use Rattle.machine_steps.specs.States.{slots_of}
use Rattle.machine_steps.proofs.WrittenSlots.{put_is}
use Rattle.machine_steps.proofs.slots.Slots.put_value.Goals as goal

pub returns-clause-slots : goal.returns-clause-slots
returns-clause-slots c =
    ap (λ h. slots_of (set c.self.inside.held.items c.args.slot h)) c.overwrite_value.ensures
    ∙ put_is c.self.inside.held.items c.args.slot (held.Plain (cell.Has c.args.value)) (subst (λ xs. c.args.slot < length xs) (sym c.self.view_is) c.requires)
    ∙ ap (λ xs. with_slot (slots_of xs) c.args.slot (Plain (Has c.args.value))) c.self.view_is
