use Rattle.std.proofs.Common.{◌≡◌, ◌∙◌, subst, sym}
use Rattle.margins.specs.Marks.{IsRising}
use Rattle.margins.proofs.Rising.{before-by_last}
use Rattle.margins.proofs.margin.Margin.is_before.Goals as goal

pub returns-in-Some : goal.returns-in-Some
returns-in-Some c =
    let same : c.as_slice.result.now ≡ c.args.self.now = c.as_slice.ensures ∙ c.self.view_is in
    let item = c.in-Some.ensures.item in
    rw same at (before-by_last c.as_slice.result.now c.in-Some.mark.now c.args.line (subst IsRising (sym c.as_slice.ensures) c.self.invariant.rising) item.3.0 item.3.1)
