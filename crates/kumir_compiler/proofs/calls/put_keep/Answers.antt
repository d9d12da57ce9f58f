use Rattle.std.proofs.Common.{◌≡◌, suc, ◌-◌, ◌∙◌, arith}
use Rattle.kumir_compiler.specs.PendingCode.{code_of}
use Rattle.kumir_compiler.specs.SitesSeen.{site_of}
use Rattle.kumir_compiler.proofs.ArgumentsInFront.{one_kept}
use Rattle.kumir_compiler.proofs.calls.put_keep.Goals as goal

pub loop-at-preserved : goal.loop-at-preserved
loop-at-preserved c =
    let some = c.loop-at-test.true in
    let within = c.loop-at.invariant.0 in
    let e : c.loop-at.at ≡ suc (c.loop-at.at - 1) = omega (arith, some) in (
      omega (arith, within),
      one_kept (site_of c.args.site.now) c.args.count c.loop-at.at (c.loop-at.at - 1) c.args.first c.in_ok-slot.slot (code_of c.put.new.out) (code_of c.loop-at.out) (code_of c.args.out.now) e within
          (c.in_ok-slot.ensures {u = tt}) c.loop-at.invariant.1 (c.in_ok-put.ensures {u = tt}),
    )
