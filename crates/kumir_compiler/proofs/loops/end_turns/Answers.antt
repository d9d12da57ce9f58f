use Rattle.std.proofs.Common.{◌≡◌, ◌-◌, length, arith}
use Rattle.std.proofs.lemmas.Result.{IfOk-weaker}
use Rattle.kumir_compiler.specs.SitesSeen.{site_of}
use Rattle.kumir_compiler.proofs.LoopsInFront.{turns_end}
use Rattle.kumir_compiler.proofs.loops.end_turns.Goals as goal

pub returns : goal.returns
returns c =
    IfOk-weaker c.step_back.result _ _
    (λ _ back. turns_end (site_of c.args.site.now) c.args.kept c.args.end c.saturating_sub-over.result c.args.variable c.args.out.now c.put_pending.new.out c.step_back.new.out
    (omega (arith, c.count.ensures, c.saturating_sub-over.ensures)) (c.in_ok-put_pending.ensures {u = tt}) back) c.step_back.ensures
