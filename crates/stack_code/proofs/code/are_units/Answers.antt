use Rattle.std.proofs.Common.{refl}
use Rattle.stack_code.specs.Validity.{IsUnit}
use Rattle.stack_code.proofs.Each.{each_more, each_all}
use Rattle.stack_code.proofs.code.are_units.Goals as goal

pub loop-at-preserved : goal.loop-at-preserved
loop-at-preserved c =
    each_more c.args.units.now c.args.units.now (λ k u. IsUnit c.args.units.now u) c.loop-at.at c.index-units-at.result
    refl c.index-units-at.is (c.in_ok-is_unit.ensures.0 c.if-not-branch.false) c.loop-at.invariant

pub returns : goal.returns
returns c = (λ t. each_all c.args.units.now c.args.units.now (λ k u. IsUnit c.args.units.now u) c.loop-at.at refl c.loop-at-test.false c.loop-at.invariant, λ h. refl)
