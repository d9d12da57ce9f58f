-- What the reading of units answers, where it is whole.
use Rattle.std.proofs.Common.{◌≡◌, ℕ, ◌<◌, List, length, take, drop, arith, ap, subst}
use Rattle.std.proofs.lemmas.List.{length-take, length-drop}
use Rattle.kumir_tree.specs.declared.unit.PlacedUnit.{PlacedUnit}
use Rattle.incr_analysis.specs.declared.analyser.Reading.{Reading}
use Rattle.incr_analysis.specs.declared.analyser.Reading.TheVariants.{Whole}
use Rattle.incr_analysis.specs.Answers.{IfWhole}

pub whole_of : (r : Reading) (units : List PlacedUnit) (P : List PlacedUnit → Type 0) → r ≡ Whole units → IfWhole r P → P units
whole_of r units P e h = subst (λ x. IfWhole x P) e h

-- a slice of all lines has fewer than the text may have
pub few_lines : (text lines slice : List (List ℕ)) (from count : ℕ) → slice ≡ lines → lines ≡ take count (drop from text) → length text < 4294967295 → length slice < 4294967295
few_lines text lines slice from count same piece few =
    omega (arith, ap (λ (l : List (List ℕ)). length l) same, ap (λ (l : List (List ℕ)). length l) piece, length-take count (drop from text), length-drop from text, few)
