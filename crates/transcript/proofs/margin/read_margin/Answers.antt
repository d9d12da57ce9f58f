use Rattle.std.proofs.Common.{◌≡◌, Some, map, sym, ap, ◌∙◌}
use Rattle.decimals.specs.Numbers.{number_of}
use Rattle.decimals.proofs.Numbers.{number_again}
use Rattle.margins.proofs.Words.{tails_same}
use Rattle.transcript.specs.declared.entry.Entry.TheVariants.{Margin}
use Rattle.transcript.proofs.Heads.{heads_same, same_marks}
use Rattle.transcript.proofs.Escapes.{same_number}
use Rattle.transcript.proofs.margin.read_margin.Goals as goal

pub returns-in_default-2 : goal.returns-in_default-2
returns-in_default-2 c version marks h k same =
    let all = ap (map (λ w. w.now)) (sym c.in-Some.ensures.cases.0) ∙ same in
    let read = c.in_ok-version.ensures ∙ ap number_of (heads_same _ _ _ _ all) ∙ number_again version h in
    let not = c.in_default-2.is in
    absurd (let none : ⊥ = cc in none)

pub returns : goal.returns
returns c version marks h k same =
    let all = ap (map (λ w. w.now)) (sym c.in-Some.ensures.cases.0) ∙ same in
    let number : c.in-Some-2.version ≡ version = same_number _ _ _ c.in-Some-2.is (c.in_ok-version.ensures ∙ ap number_of (heads_same _ _ _ _ all) ∙ number_again version h) in
    let margin : c.in-Some-3.margin ≡ marks = same_marks _ _ _ c.in-Some-3.is (c.in_ok-margin.ensures marks k (tails_same _ _ _ _ all)) in
    λ i. Some (Margin (number i) (margin i))
