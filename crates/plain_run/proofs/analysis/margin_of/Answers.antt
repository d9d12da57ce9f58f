use Rattle.std.proofs.Common.{sym, subst}
use Rattle.std.proofs.lemmas.Result.{IfOk-weaker}
use Rattle.incr_analysis.specs.Full.{Full}
use Rattle.plain_run.proofs.analysis.margin_of.Goals as goal

pub returns : goal.returns
returns c =
    IfOk-weaker c.copy.result _ _
    (λ m e. subst (λ lines. Full lines m) c.in_ok-analysis_of.ensures.same_text (subst (Full c.in_ok-analysis_of.field-0.text) (sym e) c.margin-2.ensures.full)) c.copy.ensures
