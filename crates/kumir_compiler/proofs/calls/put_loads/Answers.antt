use Rattle.std.proofs.Common.{◌∙◌}
use Rattle.kumir_compiler.specs.PendingCode.{code_of}
use Rattle.kumir_compiler.specs.SitesSeen.{site_of}
use Rattle.kumir_compiler.proofs.ArgumentsInFront.{one_loaded}
use Rattle.kumir_compiler.proofs.calls.put_loads.Goals as goal

pub loop-at-preserved : goal.loop-at-preserved
loop-at-preserved c =
    one_loaded (site_of c.args.site.now) c.args.first c.loop-at.at c.in_ok-slot.slot (code_of c.put.new.out) (code_of c.loop-at.out) (code_of c.args.out.now)
    (c.in_ok-slot.ensures {u = tt}) c.loop-at.invariant (c.in_ok-put.ensures {u = tt})
