-- The code of units without a fault is valid.
use Rattle.std.proofs.Common.{◌≡◌, ℕ, zero, suc, Bool, true, false, cond, List, [], ◌∷◌, length, map, Option, Some, refl, sym, ap, ◌∙◌, subst, nat_eq}
use Rattle.std.specs.Prelude.{slice_get}
use Rattle.std.specs.List.{AllByRecursion}
use Rattle.kumir_tree.specs.Part.{Formal, Head}
use Rattle.kumir_tree.specs.Unit.{Algorithm, Ending, Grown, Prelude, Faulty, Known}
use Rattle.kumir_tree.specs.Sound.{EndingHolds, HasDimensions, IsSound, IsUnitRead, IsPlaced}
use Rattle.kumir_names.specs.Callees.{Callee, Called, is_named, algorithm_named}
use Rattle.kumir_meaning.specs.Program.{Placed, Program, grown, program_of, own_name, callee_in}
use Rattle.stack_code.specs.declared.unit.CodeUnit.{CodeUnit}
use Rattle.stack_code.specs.Validity.{IsUnit, IsValid, entry_fits}
use Rattle.type_rules.specs.Callees as rules
use Rattle.type_rules.specs.Counted.{no_heads, counted_with, fault_at, all_counted, all_faults, headers_in, header_faults}
use Rattle.type_check.specs.Margin.{own_faults, all_placed_faults, program_faults}
use Rattle.kumir_compiler.specs.Code.{in_checks, number_of_unit, unit_code, code_of, entry_among, entry_of, without_params, param_slots, header_site}
use Rattle.kumir_compiler.proofs.SameCallees.{callees_in, same_callee}
use Rattle.kumir_compiler.proofs.FaultlessPrograms.{both_empty, own, all_grown, on_lines, placed_at, IsGrown, grown_is, all_count, none_counted}
use Rattle.kumir_compiler.proofs.ProgramsMean.{is_found}
use Rattle.kumir_compiler.proofs.TreesFit.{IsCallee}
use Rattle.kumir_compiler.proofs.ValidUnits.{IsFaultless, params_at, is_callee, is_unit}

-- ---- algorithms without a fault

abbrev AreFaultless : (List ℕ → Option (Callee Head)) → List Placed → Type 0
AreFaultless find [] = Unit {0}
AreFaultless find (a ∷ more) = IsFaultless find a × AreFaultless find more

faultless_ending : (find : List ℕ → Option (Callee Head)) (u : ℕ × Known) (e : Ending) (a : Algorithm) → EndingHolds (on_lines u) HasDimensions e → own_faults find e ≡ [] → e ≡ Grown a → IsFaultless find (placed_at u.0 a)
faultless_ending find u (Grown b) a holds f is =
    let same : b ≡ a = cc in
    subst (λ c. IsFaultless find (placed_at u.0 c)) same (record { params = holds.0.1; body = holds.3; faults = f })
faultless_ending find u Prelude a holds f is = absurd (let wrong : ⊥ = cc in wrong)
faultless_ending find u (Faulty faults) a holds f is = absurd (let wrong : ⊥ = cc in wrong)

all_faultless : (find : List ℕ → Option (Callee Head)) (units : List (ℕ × Known)) → AllByRecursion (λ u. IsUnitRead u.1 × IsPlaced u) units → AllByRecursion IsGrown units → all_placed_faults find units ≡ [] → AreFaultless find (grown units)
all_faultless find [] sound all f = tt
all_faultless find (u ∷ units) sound all f =
    let w = own find u units f in
    subst (AreFaultless find) (sym (grown_is u units all.0.0 all.0.1))
    (faultless_ending find u u.1.ending all.0.0 sound.0.1.1.2 w.0 all.0.1, all_faultless find units sound.1 all.1 w.1)

-- ---- units by their numbers

unit_there : (p : Program) (find : List ℕ → Option (Callee Head)) (f : List ℕ) (a : Placed) (l : List Placed) → AreFaultless find l → algorithm_named own_name f l ≡ Some a
    → (slice_get (map (λ b. unit_code p b) l) (number_of_unit l f) ≡ Some (unit_code p a)) × IsFaultless find a
unit_there p find f a [] ok e = absurd (let wrong : ⊥ = cc in wrong)
unit_there p find f a (b ∷ l) ok e = go (is_named f b.algorithm.head.name) (unit_there p find f a l ok.1) e
  where
    go : (c : Bool) → (algorithm_named own_name f l ≡ Some a → (slice_get (map (λ b. unit_code p b) l) (number_of_unit l f) ≡ Some (unit_code p a)) × IsFaultless find a)
        → cond c (Some b) (algorithm_named own_name f l) ≡ Some a
        → (slice_get (unit_code p b ∷ map (λ b. unit_code p b) l) (cond c 0 (suc (number_of_unit l f))) ≡ Some (unit_code p a)) × IsFaultless find a
    go false later g = later g
    go true later g = let is : b ≡ a = cc in (ap (λ c. Some (unit_code p c)) is, subst (IsFaultless find) is ok.0)

unit_is : (p : Program) (find : List ℕ → Option (Callee Head)) (l : List Placed) → AreFaultless find l → (k : ℕ) (u : CodeUnit) → slice_get (map (λ b. unit_code p b) l) k ≡ Some u → (a : Placed) × (unit_code p a ≡ u) × IsFaultless find a
unit_is p find [] ok k u e = absurd (let wrong : ⊥ = cc in wrong)
unit_is p find (a ∷ l) ok zero u e = (a, (let is : unit_code p a ≡ u = cc in is), ok.0)
unit_is p find (a ∷ l) ok (suc k) u e = unit_is p find l ok.1 k u e

-- ---- programs

entry_ok : (p : Program) (l : List Placed) → entry_fits (map (λ b. unit_code p b) l) (entry_among l) ≡ true
entry_ok p [] = refl
entry_ok p (a ∷ more) = go a.algorithm.head.params refl
  where
    go : (params : List Formal) → a.algorithm.head.params ≡ params → entry_fits (map (λ b. unit_code p b) (a ∷ more)) (without_params params) ≡ true
    go [] e = ap (λ ps. nat_eq (length (param_slots ps (header_site p a))) 0) e
    go (q ∷ params) e = refl

valid_program : (p : Program) (find : List ℕ → Option (Callee Head)) → ((x : List ℕ) → find x ≡ in_checks (callee_in p x)) → AreFaultless find p.algorithms → IsValid (code_of p) (entry_of p)
unfolding code_of
valid_program p find calls all = record {
  each = λ k u there. let w = unit_is p find p.algorithms all k u there in subst (IsUnit (code_of p)) w.1 (is_unit p find w.0 w.2 calls (code_of p) callees);
  begin = entry_ok p p.algorithms;
}
  where
    callees : (f : List ℕ) (b : Placed) → callee_in p f ≡ Some (Called b) → IsCallee (code_of p) (number_of_unit p.algorithms f) b
    callees f b e =
        let w = unit_there p find f b p.algorithms all (is_found p f b e) in
        is_callee p find b w.1 (code_of p) (number_of_unit p.algorithms f) (params_at p find b w.1 calls) w.0

pub compiled_valid : (units : List (ℕ × Known)) → IsSound units → program_faults units ≡ [] → IsValid (code_of (program_of units)) (entry_of (program_of units))
compiled_valid [] sound f = absurd sound
compiled_valid (prelude ∷ units) sound f =
    let p = program_of (prelude ∷ units) in
    let start = no_heads prelude.1.performers in
    let find = rules.callee (headers_in (prelude ∷ units)) in
    let w = both_empty (all_placed_faults find (prelude ∷ units)) (header_faults (prelude ∷ units)) f in
    let placed = own find prelude units w.0 in
    let headers = both_empty (fault_at prelude.0 start prelude.1.head) (all_faults (counted_with start prelude.1.head) units) w.1 in
    let first = none_counted start prelude.1.head sound.0.0 in
    let all = all_grown find units sound.2 placed.1 in
    let found : headers_in (prelude ∷ units) ≡ callees_in p =
    ap (λ d. all_counted d units) first ∙ all_count start units all (subst (λ d. all_faults d units ≡ []) first headers.1) in
    valid_program p find (λ x. subst (λ c. rules.callee c x ≡ in_checks (callee_in p x)) (sym found) (same_callee p x)) (all_faultless find units sound.2 all placed.1)
