use Rattle.std.proofs.Common.{◌≤◌, length, IsTrue, refl, sym, ◌∙◌, arith}
use Rattle.stack_code.specs.Validity.{line_fits}
use Rattle.stack_code.proofs.Each.{each_more, each_all}
use Rattle.stack_code.proofs.lines.do_lines_fit.Goals as goal

pub loop-place-preserved : goal.loop-place-preserved
loop-place-preserved c =
    each_more c.args.unit.now.body c.as_slice-body.result.now (λ k l. IsTrue (line_fits c.args.units.now c.args.unit.now k l)) c.loop-place.place c.index-body-place.result
    c.as_slice-body.ensures c.index-body-place.is (sym c.does_line_fit.ensures ∙ c.if-not-does_line_fit.false) c.loop-place.invariant

pub returns : goal.returns
returns c =
    let past : length c.as_slice-body.result.now ≤ c.loop-place.place = omega (arith, c.loop-place-test.false) in
    let all = each_all c.args.unit.now.body c.as_slice-body.result.now (λ k l. IsTrue (line_fits c.args.units.now c.args.unit.now k l)) c.loop-place.place c.as_slice-body.ensures past c.loop-place.invariant in
    (λ t. all, λ h. refl)
