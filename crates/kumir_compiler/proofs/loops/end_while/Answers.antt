use Rattle.std.proofs.Common.{◌≡◌, ◌-◌, length, arith}
use Rattle.std.proofs.lemmas.Result.{IfOk-weaker}
use Rattle.kumir_tree.specs.Seen.{tree}
use Rattle.kumir_compiler.specs.ExpressionCode.{tree_code}
use Rattle.kumir_compiler.specs.SitesSeen.{site_of, with_locals}
use Rattle.kumir_compiler.proofs.LoopsInFront.{while_ends}
use Rattle.kumir_compiler.proofs.loops.end_while.Goals as goal

pub returns : goal.returns
returns c =
    IfOk-weaker c.step_back.result _ _
    (λ _ back. while_ends (site_of c.args.site.now) (tree_code (tree c.args.e.now) (with_locals c.args.site.now c.args.start) c.args.hidden) c.args.end c.saturating_sub-over.result c.args.out.now c.put_pending.new.out c.emit_tree.new.out c.step_back.new.out
    (omega (arith, c.count.ensures, c.saturating_sub-over.ensures)) (c.in_ok-put_pending.ensures {u = tt}) (c.in_ok-emit_tree.ensures {u = tt}) back) c.step_back.ensures
