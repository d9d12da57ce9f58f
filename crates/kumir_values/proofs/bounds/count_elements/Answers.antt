use Rattle.std.proofs.Common.{◌<◌, drop, arith}
use Rattle.std.proofs.lemmas.Nat.{mul-le}
use Rattle.std.proofs.lemmas.Bool.Decides.{nat_tests}
use Rattle.kumir_values.specs.Bounds.{elements}
use Rattle.kumir_values.proofs.Places.{more_elements}
use Rattle.kumir_values.proofs.bounds.count_elements.Goals as goal

pub returns-then-count-most : goal.returns-then-count-most
returns-then-count-most c =
    let more = more_elements (drop c.loop-bound.bound-index c.args.bounds.now) c.loop-bound.count (elements c.args.bounds.now) c.loop-bound.invariant.ordered c.loop-bound.invariant.counted in
    let above : c.args.room < elements c.args.bounds.now = omega (arith, more) in
    grind (arith, nat_tests)

pub overflow_mul-count : goal.overflow_mul-count
overflow_mul-count c = omega (arith, mul-le c.loop-bound.count c.width_of-count.result 4294967295 4294967296 (omega arith) (omega arith))
