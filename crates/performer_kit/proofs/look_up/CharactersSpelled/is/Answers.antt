use Rattle.std.proofs.Common.{◌≡◌, refl, ap, ◌∙◌}
use Rattle.std.specs.Ordering.{nat_cmp, is_eq}
use Rattle.std.specs.Cmp.Lexicographic.{slice_cmp}
use Rattle.std.specs.Str.{chars}
use Rattle.std.proofs.lemmas.Iterator.{YieldsList-from_chars, YieldsList-from_slice}
use Rattle.std.proofs.lemmas.Iterator.Consumers.{YieldsList-from_copied}
use Rattle.std.proofs.lemmas.Iterator.Search.{cmp_from_yields_List}
use Rattle.std.proofs.lemmas.Map.Text.{is_eq-slice_cmp}
use Rattle.performer_kit.proofs.look_up.CharactersSpelled.is.Goals as goal

pub returns : goal.returns
returns c =
    let order : c.cmp.result ≡ slice_cmp nat_cmp (chars c.args.text.now) c.args.self.now.0.now =
    cmp_from_yields_List (λ x y. y ≡ x) _ nat_cmp c.cmp.result c.cmp.ensures.ran
    (YieldsList-from_chars c.args.text.now c.utf8.text cc)
    (λ it becomes. YieldsList-from_copied (YieldsList-from_slice c.args.self.now.0.now cc))
    (λ x y. refl) in
    c.is_eq.ensures ∙ ap is_eq order ∙ is_eq-slice_cmp (chars c.args.text.now) c.args.self.now.0.now
