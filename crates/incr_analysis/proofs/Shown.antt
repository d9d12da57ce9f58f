-- What an analysed text keeps.
use Rattle.std.proofs.Common.{◌≡◌, ℕ, List, [], ◌∷◌, map, refl, sym, ap, subst, ◌∙◌, arith}
use Rattle.std.proofs.Common.{Bool, true, false, Option, Some}
use Rattle.std.specs.Borrow.{Bor}
use Rattle.kumir_tree.specs.Part.{Head}
use Rattle.kumir_tree.specs.Parts.{formal_of}
use Rattle.kumir_tree.specs.declared.header.Header.{Header}
use Rattle.kumir_tree.specs.declared.header.Param.{Param}
use Rattle.type_rules.specs.Headers.{some_head_behind}
use Rattle.kumir_tree.specs.Unit.{Known}
use Rattle.kumir_tree.specs.Units.{units_of}
use Rattle.kumir_tree.specs.declared.unit.UnitRead.{UnitRead}
use Rattle.kumir_tree.specs.declared.unit.PlacedUnit.{PlacedUnit}
use Rattle.margins.specs.declared.margin.Mark.{Mark}
use Rattle.type_check.specs.Placed.{reads_of, units_in}
use Rattle.type_check.specs.Margin.{program_faults, IsMarginOf}
use Rattle.type_check.specs.Refused.{IsRefusalOf}
use Rattle.type_check.specs.declared.refusal.CleanRefusal.{CleanRefusal}
use Rattle.type_check.specs.declared.refusal.CleanRefusal.TheVariants.{Faults, Memory}
use Rattle.type_check.proofs.FirstUnit.{units_seen}
use Rattle.type_check.proofs.OneMargin.{has_one_margin}
use Rattle.incr_analysis.specs.Full.{AreUnits, IsAnalysis, Full, is_empty, takes_nothing}
use Rattle.incr_analysis.specs.Seen.{AnalysedText}
use Rattle.incr_analysis.specs.Answers.{IsRefusedWith}

pub shown_full : (lines : List (List ℕ)) (units : List (ℕ × Known)) (margin : List Mark) → IsAnalysis lines units margin → Full lines margin
shown_full lines units margin h = (units, h)

pub same_units : (seen : List (ℕ × UnitRead)) (units : List PlacedUnit) → seen ≡ reads_of units → units_of units ≡ units_in seen
same_units seen units e = sym (units_seen units) ∙ ap units_in (sym e)

-- the units that are seen are those of the text that is seen
pub shown_units : (a : AnalysedText) (version : ℕ) (lines : List (List ℕ)) (units : List PlacedUnit) (marks : List Mark) → record { version = version; text = lines; units = reads_of units; margin = marks } ≡ a → IsAnalysis lines (units_of units) marks → AreUnits a.text (units_in a.units)
shown_units a version lines units marks is h = subst (λ (b : AnalysedText). AreUnits b.text (units_in b.units)) is (subst (AreUnits lines) (sym (units_seen units)) h.are_units)

-- and its analysis is that of these units
pub shown_analysis : (a : AnalysedText) (version : ℕ) (lines : List (List ℕ)) (units : List PlacedUnit) (marks : List Mark) → record { version = version; text = lines; units = reads_of units; margin = marks } ≡ a → IsAnalysis lines (units_of units) marks → IsAnalysis a.text (units_in a.units) marks
shown_analysis a version lines units marks is h = subst (λ (b : AnalysedText). IsAnalysis b.text (units_in b.units) marks) is (subst (λ us. IsAnalysis lines us marks) (sym (units_seen units)) h)

-- without a fault there is no mark
pub no_marks : (marks : List Mark) → IsMarginOf [] marks → marks ≡ []
no_marks [] margin = refl
no_marks (m ∷ marks) margin = let found = margin.stands m (0, omega arith, refl) in absurd (omega (arith, found.1))

pub without_marks : (lines : List (List ℕ)) (units : List (ℕ × Known)) (marks : List Mark) → IsAnalysis lines units marks → program_faults units ≡ [] → marks ≡ []
without_marks lines units marks a e = no_marks marks (subst (λ fs. IsMarginOf fs marks) e a.marked)

-- there is one margin of the faults
pub refused_with : (lines : List (List ℕ)) (units : List (ℕ × Known)) (marks : List Mark) (r : CleanRefusal) → IsAnalysis lines units marks → IsRefusalOf (program_faults units) r → IsRefusedWith marks r
refused_with lines units marks (Faults shown) a h = let same : shown ≡ marks = has_one_margin (program_faults units) shown marks h.0 a.marked in (same, λ none. h.1 (same ∙ none))
refused_with lines units marks Memory a h = h

pub main_takes_nothing : (header : Bor Header) (first : Option Head) (empty : Bool) → some_head_behind (Some header) ≡ first → empty ≡ is_empty (map formal_of header.now.params) → empty ≡ takes_nothing first
main_takes_nothing header first empty e same = same ∙ ap takes_nothing e

pub empty_params : (params : List Param) (empty : Bool) → (empty ≡ true → params ≡ []) × (params ≡ [] → empty ≡ true) → empty ≡ is_empty (map formal_of params)
empty_params [] true h = refl
empty_params [] false h = h.1 refl
empty_params (p ∷ params) true h = absurd (let e = h.0 refl in let none : ⊥ = cc in none)
empty_params (p ∷ params) false h = refl
