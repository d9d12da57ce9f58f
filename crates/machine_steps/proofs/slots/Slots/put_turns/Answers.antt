use Rattle.std.proofs.Common.{◌<◌, ◌∙◌, ap, subst, sym, set, length}
use Rattle.stack_code.specs.CodeState.{with_slot}
use Rattle.machine_steps.specs.declared.held.Held.TheVariants as held
use Rattle.machine_steps.specs.States.{slots_of, turns_view}
use Rattle.machine_steps.proofs.WrittenSlots.{put_is}
use Rattle.machine_steps.proofs.slots.Slots.put_turns.Goals as goal

pub returns-clause-slots : goal.returns-clause-slots
returns-clause-slots c =
    ap (λ h. slots_of (set c.self.inside.held.items c.args.slot h)) c.overwrite_turns.ensures
    ∙ put_is c.self.inside.held.items c.args.slot (held.Loop c.args.turns) (subst (λ xs. c.args.slot < length xs) (sym c.self.view_is) c.requires)
    ∙ ap (λ xs. with_slot (slots_of xs) c.args.slot (turns_view c.args.turns)) c.self.view_is
