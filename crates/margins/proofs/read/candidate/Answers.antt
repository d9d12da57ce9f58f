use Rattle.std.proofs.Common.{map, ap, sym, ◌∙◌}
use Rattle.std.proofs.lemmas.List.{nil_from_length}
use Rattle.std.specs.List.{slice_split}
use Rattle.std.specs.Prelude.{◌==◌}
use Rattle.margins.proofs.Words.{margin_words, tails_same}
use Rattle.margins.proofs.read.candidate.Goals as goal

pub returns-in-Some : goal.returns-in-Some
returns-in-Some c ms margin is =
    let parts = ap (map (λ w. w.now)) (sym c.in-Some.ensures.cases.0 ∙ c.as_slice.ensures.value) ∙ c.in_ok-words.ensures ∙ ap (slice_split (λ b. b == 32)) is ∙ margin_words ms margin in
    c.read_words.ensures ms margin (tails_same _ _ _ _ parts)

pub returns : goal.returns
returns c ms margin is =
    let parts = ap (map (λ w. w.now)) (sym (nil_from_length _ c.in-None.ensures.cases) ∙ c.as_slice.ensures.value) ∙ c.in_ok-words.ensures ∙ ap (slice_split (λ b. b == 32)) is ∙ margin_words ms margin in
    absurd (let none : ⊥ = cc in none)
