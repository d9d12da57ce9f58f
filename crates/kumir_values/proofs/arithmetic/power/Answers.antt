use Rattle.std.proofs.Common.{w32, rules}
use Rattle.std.proofs.lemmas.Int.{to_z-of_z}
use Rattle.kumir_values.proofs.Powers.{power_within, power_outside}
use Rattle.kumir_values.proofs.arithmetic.power.Goals as goal

pub returns-in-Some : goal.returns-in-Some
returns-in-Some c =
    let a = to_z-of_z w32 c.args.base c.ranges.base in
    let e = to_z-of_z w32 c.args.exponent c.ranges.exponent in
    let h = simp (a, e) at c.in-Some.ensures in
    let k = simp e at c.if-exponent-lt0.false in
    rw (to_z-of_z w32 c.in-Some.exact (search rules)) (power_within c.args.base c.args.exponent c.in-Some.exact k h.0 h.1)

pub returns-in-None : goal.returns-in-None
returns-in-None c =
    let a = to_z-of_z w32 c.args.base c.ranges.base in
    let e = to_z-of_z w32 c.args.exponent c.ranges.exponent in
    let h = simp (a, e) at c.in-None.ensures in
    let k = simp e at c.if-exponent-lt0.false in
    power_outside c.args.base c.args.exponent k h
