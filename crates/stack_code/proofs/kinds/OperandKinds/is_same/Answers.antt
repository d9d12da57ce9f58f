use Rattle.std.proofs.Common.{ap, sym, ◌∙◌, reverse}
use Rattle.std.proofs.lemmas.Slice.Eq.{slice_eq-Decides}
use Rattle.stack_code.proofs.KindsOf.{kind-Decides, reversed}
use Rattle.stack_code.proofs.kinds.OperandKinds.is_same.Goals as goal

pub returns : goal.returns
returns c =
    let same = slice_eq-Decides kind-Decides c.as_slice.result.now c.as_slice-2.result.now c.eq.result c.eq.ensures in
    let a = c.as_slice.ensures.value in
    let b = c.as_slice-2.ensures.value in (
      λ t. sym c.self.view_is ∙ ap reverse (sym a ∙ same.0 t ∙ b) ∙ c.other.view_is,
      λ e. same.1 (a ∙ reversed _ _ (c.self.view_is ∙ e ∙ sym c.other.view_is) ∙ sym b),
    )
