use Rattle.std.proofs.Common.{◌≤◌, min, length, arith}
use Rattle.kumir_compiler.proofs.ArgumentsInFront.{no_keeps_past}
use Rattle.kumir_compiler.proofs.kept.all_kept.Goals as goal

pub returns : goal.returns
returns c =
    let le : min (length c.args.params.now) (length c.args.all.now) ≤ c.loop-at.at = omega (arith, c.loop-at-test.false, c.min-at-end.ensures) in
    let none_left = no_keeps_past c.args.params.now c.args.all.now c.loop-at.at le in
    omega (arith, c.loop-at.invariant, none_left)
