use Rattle.std.proofs.Common.{◌≡◌, ◌<◌, length, set, List, sym, subst}
use Rattle.machine_steps.specs.declared.held.Held.{Held}
use Rattle.stack_code.specs.CodeState.{with_slot}
use Rattle.machine_steps.specs.States.{slot_of, slots_of}
use Rattle.machine_steps.proofs.WrittenSlots.{put_is}
use Rattle.machine_steps.proofs.slots.Slots.put.Goals as goal

pub returns-clause-slots : goal.returns-clause-slots
returns-clause-slots c =
    subst (λ (s : List Held). slots_of (set c.self.inside.held.items c.args.slot c.args.held) ≡ with_slot (slots_of s) c.args.slot (slot_of c.args.held)) c.self.view_is
    (put_is c.self.inside.held.items c.args.slot c.args.held (subst (λ (s : List Held). c.args.slot < length s) (sym c.self.view_is) c.requires))
