use Rattle.std.proofs.Common.{◌≢◌, length, sym, arith}
use Rattle.stack_code.proofs.PlacesFit.{unequal}
use Rattle.stack_code.proofs.lines.do_places_fit.Goals as goal

pub returns-then-params-places : goal.returns-then-params-places
returns-then-params-places c =
    let differ : length c.args.params.now ≢ length c.args.places.now = grind (arith, c.if-params-places.true) in
    sym (unequal c.args.formal.now c.args.params.now c.args.slots.now c.args.places.now differ)
