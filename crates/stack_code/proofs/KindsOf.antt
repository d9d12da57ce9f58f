-- Lists of kinds.
use Rattle.std.proofs.Common.{◌≡◌, List, reverse, refl, sym, ap, ◌∙◌}
use Rattle.std.specs.Bool.{Decides}
use Rattle.std.proofs.lemmas.List.{reverse-reverse}
use Rattle.kumir_tree.specs.declared.kind.Kind.{Kind}
use Rattle.kumir_tree.specs.declared.kind.Kind.TheVariants.{Whole, Truth}
use Rattle.kumir_tree.specs.contracts.kind.KindPartialEq.TheImpl as eq

pub kind-Decides : (a b : Kind) → Decides ((eq.eq-value).it a b) (a ≡ b)
kind-Decides Whole Whole = (λ e. refl, λ e. refl)
kind-Decides Whole Truth = (λ e. absurd (let z = e in cc), λ e. absurd (let z = e in cc))
kind-Decides Truth Whole = (λ e. absurd (let z = e in cc), λ e. absurd (let z = e in cc))
kind-Decides Truth Truth = (λ e. refl, λ e. refl)

pub reversed : (xs ys : List Kind) → reverse xs ≡ reverse ys → xs ≡ ys
reversed xs ys e = sym (reverse-reverse xs) ∙ ap reverse e ∙ reverse-reverse ys
