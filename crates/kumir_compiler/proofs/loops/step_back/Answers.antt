use Rattle.std.proofs.Common.{◌≡◌, ◌+◌, ◌-◌, ◌<◌, length, refl, arith}
use Rattle.kumir_compiler.specs.Sites.{jump_back}
use Rattle.kumir_compiler.specs.SitesSeen.{site_of}
use Rattle.kumir_compiler.specs.declared.pending.Pending.TheVariants.{Back}
use Rattle.kumir_compiler.proofs.LoopsInFront.{stepped_back, too_short}
use Rattle.kumir_compiler.proofs.loops.step_back.Goals as goal

pub returns-then-end-count : goal.returns-then-end-count
returns-then-end-count c =
    stepped_back jump_back Back (site_of c.args.site.now) c.args.end (c.count-count.result - c.args.end - 1) c.args.out.now c.put.new.out c.change.new.self
    (λ s n m. refl) (c.in_ok-put.ensures {u = tt}) (omega (arith, c.count-count.ensures, c.if-end-count.true)) c.change.ensures

pub returns-else-end-count : goal.returns-else-end-count
returns-else-end-count c =
    too_short jump_back (site_of c.args.site.now) c.args.end c.args.out.now c.put.new.out (c.in_ok-put.ensures {u = tt}) (omega (arith, c.count-count.ensures, c.if-end-count.false))
