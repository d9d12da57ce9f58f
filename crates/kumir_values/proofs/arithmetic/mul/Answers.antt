use Rattle.std.proofs.Common.{◌≤◌, ◌*ℤ◌, ◌∙◌, unsigned_abs, FitsSigned, w32, w64, arith, lit<, rules}
use Rattle.std.proofs.lemmas.Int.{to_z-of_z, fits_signed_mul, ints}
use Rattle.kumir_values.proofs.arithmetic.mul.Goals as goal

pub returns : goal.returns
returns c =
    let a = to_z-of_z w32 c.args.a c.ranges.a in
    let b = to_z-of_z w32 c.args.b c.ranges.b in
    let wide_a : FitsSigned w64 c.args.a = search rules in
    let wide_b : FitsSigned w64 c.args.b = search rules in
    let x : unsigned_abs c.args.a ≤ 2147483648 = omega (arith, ints) in
    let y : unsigned_abs c.args.b ≤ 2147483648 = omega (arith, ints) in
    let f : FitsSigned w64 (c.args.a *ℤ c.args.b) = fits_signed_mul w64 c.args.a c.args.b 2147483648 2147483648 x y (lit< tt) in
    c.in_range.ensures ∙ simp (c.from.ensures, c.from-2.ensures, a, b, to_z-of_z w64 c.args.a wide_a, to_z-of_z w64 c.args.b wide_b, to_z-of_z w64 (c.args.a *ℤ c.args.b) f)
