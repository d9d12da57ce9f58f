use Rattle.std.proofs.Common.{◌≡◌, ◌≢◌, ◌+◌, ◌<◌, ℕ, sym, ◌∙◌, subst, arith}
use Rattle.stack_code.specs.declared.flow.Met.TheVariants.{Same, Clash}
use Rattle.stack_code.specs.Checking.{Kept, IsFollowed}
use Rattle.stack_code.proofs.Visits.{turned, clashed, not_both, not_clash, is_clash, kept_size}
use Rattle.stack_code.proofs.flow.visit_all.Goals as goal

pub returns-then-is_clash : goal.returns-then-is_clash
returns-then-is_clash c =
    clashed c.args.units.now c.args.unit.now c.args.found.now.items c.loop-place.found.items c.visit.new.found.items c.loop-place.place c.loop-place.so_far c.in_ok-met.met
    c.loop-place.invariant.2 c.loop-place.invariant.3 c.in_ok-met.ensures (is_clash c.in_ok-met.met (sym c.is_clash.ensures ∙ c.if-is_clash.true))

pub loop-place-preserved : goal.loop-place-preserved
loop-place-preserved c =
    let test = c.loop-place-test.true in
    let len = c.len.ensures in
    let fine = not_clash c.in_ok-met.met (sym c.is_clash.ensures ∙ c.if-is_clash.false) in
    let is = sym c.both_met-so_far.ensures in
    let next = turned c.args.units.now c.args.unit.now c.args.found.now.items c.loop-place.found.items c.visit.new.found.items c.loop-place.place c.loop-place.so_far c.in_ok-met.met
    c.loop-place.invariant.2 c.loop-place.invariant.3 c.loop-place.invariant.4 c.in_ok-met.ensures in (
      omega (arith, test, len),
      kept_size c.args.units.now c.args.unit.now c.loop-place.found.items c.visit.new.found.items c.in_ok-met.met fine c.in_ok-met.ensures.kept ∙ c.loop-place.invariant.1,
      subst (λ m. m ≢ Clash) is (not_both c.loop-place.so_far c.in_ok-met.met c.loop-place.invariant.2 fine),
      subst (λ m. Kept c.args.units.now c.args.unit.now c.args.found.now.items m c.visit.new.found.items) is next.0,
      subst (λ m. m ≡ Same → (k : ℕ) → k < c.loop-place.place + 1 → IsFollowed c.args.units.now c.args.unit.now c.args.found.now.items k) is next.1,
    )
