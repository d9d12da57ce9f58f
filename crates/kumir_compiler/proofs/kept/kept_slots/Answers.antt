use Rattle.std.proofs.Common.{◌≡◌, suc, ◌-◌, [], ◌∷◌, ◌++◌, arith}
use Rattle.kumir_compiler.proofs.ArgumentsInFront.{one_slot}
use Rattle.kumir_compiler.proofs.kept.kept_slots.Goals as goal

pub loop-at-preserved : goal.loop-at-preserved
loop-at-preserved c =
    let some = c.loop-at-test.true in
    let e : c.loop-at.at ≡ suc (c.loop-at.at - 1) = omega (arith, some) in
    one_slot c.loop-at.slots c.push.new.self c.args.first c.loop-at.at (c.loop-at.at - 1) c.in_ok-slot.slot _ e (c.in_ok-slot.ensures {u = tt}) ((c.in_ok-push.ensures {u = tt}).ok) c.loop-at.invariant
