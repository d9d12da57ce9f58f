use Rattle.std.proofs.Common.{◌≡◌, ◌*◌, ◌+◌, drop, arith, get_or, pos, refl, rules, ap, ◌∙◌, ◌-ℤ◌, unsigned_abs, w32}
use Rattle.std.proofs.lemmas.Int.{to_z-of_z}
use Rattle.kumir_values.specs.declared.bounds.Bound.{Bound}
use Rattle.kumir_values.specs.Bounds.{elements, width}
use Rattle.kumir_values.proofs.Places.{turn, found}
use Rattle.kumir_values.proofs.bounds.place_of.Goals as goal

abbrev none : Bound
none = record { low = pos 0; high = pos 0 }

pub overflow_mul-at : goal.overflow_mul-at
overflow_mul-at c =
    let t = turn c.args.bounds.now c.args.index.now c.loop-k.k c.loop-k.at (elements c.args.bounds.now) (get_or c.args.bounds.now c.loop-k.k none) (get_or c.args.index.now c.loop-k.k (pos 0)) none c.loop-k-test.true c.requires.as_many refl refl (search rules) (search rules) (search rules) c.if-i-bound.false c.if-i-bound-2.false c.loop-k.invariant.ordered c.loop-k.invariant.fits in
    let e = ap (λ w. c.loop-k.at * w) c.width_of.ensures.value in
    omega (arith, t.below, e, c.requires.room)

pub overflow_add-at : goal.overflow_add-at
overflow_add-at c =
    let t = turn c.args.bounds.now c.args.index.now c.loop-k.k c.loop-k.at (elements c.args.bounds.now) (get_or c.args.bounds.now c.loop-k.k none) (get_or c.args.index.now c.loop-k.k (pos 0)) none c.loop-k-test.true c.requires.as_many refl refl (search rules) (search rules) (search rules) c.if-i-bound.false c.if-i-bound-2.false c.loop-k.invariant.ordered c.loop-k.invariant.fits in
    let b = get_or c.args.bounds.now c.loop-k.k none in
    let i = get_or c.args.index.now c.loop-k.k (pos 0) in
    let x = to_z-of_z w32 i (search rules) in
    let y = to_z-of_z w32 b.low (search rules) in
    let d : c.from.result ≡ unsigned_abs (i -ℤ b.low) = c.from.ensures ∙ (simp (x, y) at c.abs_diff.ensures) in
    let e = ap (λ w. c.loop-k.at * w) c.width_of.ensures.value in
    omega (arith, t.below, e, d, c.requires.room)

pub loop-k-preserved : goal.loop-k-preserved
loop-k-preserved c =
    let t = turn c.args.bounds.now c.args.index.now c.loop-k.k c.loop-k.at (elements c.args.bounds.now) (get_or c.args.bounds.now c.loop-k.k none) (get_or c.args.index.now c.loop-k.k (pos 0)) none c.loop-k-test.true c.requires.as_many refl refl (search rules) (search rules) (search rules) c.if-i-bound.false c.if-i-bound-2.false c.loop-k.invariant.ordered c.loop-k.invariant.fits in
    let b = get_or c.args.bounds.now c.loop-k.k none in
    let i = get_or c.args.index.now c.loop-k.k (pos 0) in
    let x = to_z-of_z w32 i (search rules) in
    let y = to_z-of_z w32 b.low (search rules) in
    let d : c.from.result ≡ unsigned_abs (i -ℤ b.low) = c.from.ensures ∙ (simp (x, y) at c.abs_diff.ensures) in
    let e : c.loop-k.at * c.width_of.result + c.from.result ≡ c.loop-k.at * width b + unsigned_abs (i -ℤ b.low) = rw (c.width_of.ensures.value, d) refl in
    record {
      rest = ap (λ n. found n (drop (c.loop-k.k + 1) c.args.bounds.now) (drop (c.loop-k.k + 1) c.args.index.now)) e ∙ t.rest ∙ c.loop-k.invariant.rest;
      fits = rw e t.fits;
      ordered = t.ordered;
    }
