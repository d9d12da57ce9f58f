use Rattle.std.proofs.Common.{◌++◌, [], ◌∷◌, subst, sym, ap, ◌∙◌, take}
use Rattle.std.proofs.lemmas.Bool.{false≢true}
use Rattle.margins.specs.Marks.{IsBefore}
use Rattle.margins.proofs.Reading.{mark_at, before_it, take_it, same_mark}
use Rattle.margins.proofs.read.read_words.Goals as goal

pub returns-in_default : goal.returns-in_default
returns-in_default c ms margin same =
    let at = mark_at c.args.words.now ms c.loop-word.word-index record { ref_ptr = (0, 0); now = [] } c.loop-word-test.true margin same in
    absurd (c.in_default.not-Some at.0 (c.read_mark.ensures at.0 at.1.mark at.2))

pub returns-then-not-is_before : goal.returns-then-not-is_before
returns-then-not-is_before c ms margin same =
    let at = mark_at c.args.words.now ms c.loop-word.word-index record { ref_ptr = (0, 0); now = [] } c.loop-word-test.true margin same in
    let is = same_mark _ _ _ c.in-Some.is (c.read_mark.ensures at.0 at.1.mark at.2) in
    let before = subst (λ k. IsBefore k at.0.line) (sym (c.loop-word.invariant ms margin same)) (before_it ms c.loop-word.word-index at.0 margin at.1) in
    absurd (false≢true (sym c.if-not-is_before.true ∙ c.is_before.ensures.1 (subst (λ m. IsBefore c.loop-word.margin m.line) (sym is) before)))

pub loop-word-preserved : goal.loop-word-preserved
loop-word-preserved c ms margin same =
    let i = c.loop-word.word-index in
    let at = mark_at c.args.words.now ms i record { ref_ptr = (0, 0); now = [] } c.loop-word-test.true margin same in
    let is = same_mark _ _ _ c.in-Some.is (c.read_mark.ensures at.0 at.1.mark at.2) in
    c.in_ok-push.ensures.ok ∙ ap (λ x. x ++ c.in-Some.mark ∷ []) (c.loop-word.invariant ms margin same) ∙ ap (λ x. take i ms ++ x ∷ []) is ∙ sym (take_it ms i at.0 at.1)
