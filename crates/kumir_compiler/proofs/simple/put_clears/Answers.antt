use Rattle.std.proofs.Common.{◌≡◌, suc, ◌-◌, ◌<◌, length, arith}
use Rattle.kumir_compiler.specs.PendingCode.{code_of}
use Rattle.kumir_compiler.specs.SitesSeen.{site_of}
use Rattle.kumir_compiler.proofs.SimpleInFront.{one_cleared}
use Rattle.kumir_compiler.proofs.simple.put_clears.Goals as goal

pub loop-at-preserved : goal.loop-at-preserved
loop-at-preserved c =
    let within = c.loop-at.invariant.within in
    let some = c.loop-at-test.true in
    let e : c.loop-at.at ≡ suc (c.loop-at.at - 1) = omega (arith, some) in
    let lt : c.loop-at.at - 1 < length c.args.names.now = omega (arith, some, within) in
    record {
      within = omega (arith, within);
      code = one_cleared (site_of c.args.site.now) c.args.names.now c.loop-at.at (c.loop-at.at - 1) c.in_ok-slot.slot c.index-names-at.result (code_of c.args.out.now) (code_of c.loop-at.out) (code_of c.put.new.out)
          e lt c.index-names-at.is (c.in_ok-slot.ensures {u = tt}) c.loop-at.invariant.code (c.in_ok-put.ensures {u = tt});
    }
