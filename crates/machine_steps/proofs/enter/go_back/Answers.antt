use Rattle.std.proofs.Common.{length, subst, sym}
use Rattle.std.specs.Prelude.{All}
use Rattle.machine_steps.specs.Returns.{PlaceIsThere}
use Rattle.machine_steps.proofs.ValidCalls.{waiting_places}
use Rattle.machine_steps.proofs.enter.go_back.Goals as goal

pub copy_out-requires-clause-places : goal.copy_out-requires-clause-places
copy_out-requires-clause-places c =
    subst (λ r. All (PlaceIsThere (length r.slots)) c.places_behind-places.result.now) (sym c.replace-left.ensures.after)
    (subst (All (PlaceIsThere (length c.args.caller.slots))) (sym c.places_behind-places.ensures) (waiting_places c.args.units.now c.args.caller c.requires.valid c.requires.waits))
