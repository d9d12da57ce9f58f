use Rattle.std.proofs.Common.{◌+◌, ◌≤◌, [], ◌∷◌, ◌++◌, ◌∙◌, length, ap, subst, arith}
use Rattle.std.proofs.lemmas.Result.{IfOk-weaker}
use Rattle.text_versions.specs.declared.versions.ApplyRefusal.TheVariants.{Memory}
use Rattle.text_versions.specs.Texts.{IsUnless}
use Rattle.text_versions.specs.Edits.{text_after}
use Rattle.text_versions.proofs.Changed.{changed_as_edit}
use Rattle.text_versions.proofs.versions.Versions.change_within.Goals as goal

pub returns-clause-answer : goal.returns-clause-answer
returns-clause-answer g c =
    let edits = c.args.self.now in
    let count : c.args.from + c.args.count ≤ length c.in-Some.old.now = omega (arith, c.character_count.ensures) in
    let edit = c.in_ok-edit.ensures ∙ ap (λ l. record { from = c.args.line; count = 1; lines = l ∷ [] }) c.in_ok-changed.ensures in
    let both = changed_as_edit c.args.limits edits c.self.inside.text c.args.line c.args.from c.args.count c.args.text c.in-Some.old.now c.in_ok-edit.edit (c.self.invariant.text_is ∙ ap text_after c.self.view_is) c.in-Some.ensures count edit in
    subst (λ wanted. IsUnless Memory wanted c.apply_within.result) both.0 c.apply_within.ensures.answer

pub returns-clause-accepted : goal.returns-clause-accepted
returns-clause-accepted g c =
    let edits = c.args.self.now in
    let count : c.args.from + c.args.count ≤ length c.in-Some.old.now = omega (arith, c.character_count.ensures) in
    let edit = c.in_ok-edit.ensures ∙ ap (λ l. record { from = c.args.line; count = 1; lines = l ∷ [] }) c.in_ok-changed.ensures in
    let both = changed_as_edit c.args.limits edits c.self.inside.text c.args.line c.args.from c.args.count c.args.text c.in-Some.old.now c.in_ok-edit.edit (c.self.invariant.text_is ∙ ap text_after c.self.view_is) c.in-Some.ensures count edit in
    IfOk-weaker c.apply_within.result _ _ (λ _ same. same ∙ ap (λ e. edits ++ e ∷ []) both.1) c.apply_within.ensures.accepted
