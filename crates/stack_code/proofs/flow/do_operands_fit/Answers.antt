use Rattle.std.proofs.Common.{[], refl, ◌∙◌, subst}
use Rattle.stack_code.specs.declared.flow.Met.TheVariants.{New}
use Rattle.stack_code.specs.Checking.{VisitsAll, Kept, kinds_at}
use Rattle.stack_code.proofs.Visits.{all_right, none_right}
use Rattle.stack_code.proofs.flow.do_operands_fit.Goals as goal

pub returns-in-Same : goal.returns-in-Same
returns-in-Same c =
    let v = subst (λ m. VisitsAll c.args.units.now c.args.unit.now c.loop-found.found.items m c.visit_all.new.found.items) c.in-Same.is c.in_ok-visit_all.ensures in
    (λ t. (kinds_at c.loop-found.found.items, all_right c.args.units.now c.args.unit.now c.loop-found.found.items c.visit_all.new.found.items c.loop-found.invariant.1 v), λ h. refl)

pub returns-in-Clash : goal.returns-in-Clash
returns-in-Clash c =
    let v = subst (λ m. VisitsAll c.args.units.now c.args.unit.now c.loop-found.found.items m c.visit_all.new.found.items) c.in-Clash.is c.in_ok-visit_all.ensures in
    (λ t. absurd (let z = t in cc), λ h. absurd (none_right c.args.units.now c.args.unit.now c.loop-found.found.items c.visit_all.new.found.items c.loop-found.invariant.2 v h.0 h.1))

pub loop-found-preserved : goal.loop-found-preserved
loop-found-preserved c =
    let v : Kept c.args.units.now c.args.unit.now c.loop-found.found.items New c.visit_all.new.found.items = (subst (λ m. VisitsAll c.args.units.now c.args.unit.now c.loop-found.found.items m c.visit_all.new.found.items) c.in-New.is c.in_ok-visit_all.ensures).kept in
    (v.size ∙ c.loop-found.invariant.0, v.grows 0 [] c.loop-found.invariant.1, λ kinds right. v.within kinds right (c.loop-found.invariant.2 kinds right))
