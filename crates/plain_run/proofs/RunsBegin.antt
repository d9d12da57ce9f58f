-- How a run is refused or begins.
use Rattle.std.proofs.Common.{◌≡◌, ◌≢◌, ℕ, Bool, true, false, true≢false, List, [], ◌∷◌, length, refl, sym, subst, ◌∙◌, arith}
use Rattle.std.proofs.lemmas.Bool.Decides.{nat_tests}
use Rattle.std.specs.Prelude.{Ok, Err, ◌==◌}
use Rattle.km_ports.specs.Ports.{SinkState}
use Rattle.kumir_tree.specs.declared.unit.Fault.{Fault}
use Rattle.kumir_tree.specs.Unit.{Known}
use Rattle.kumir_values.specs.declared.value.Value.{Value}
use Rattle.margins.specs.declared.margin.Mark.{Mark}
use Rattle.run_control.specs.declared.BeginRefusal.TheVariants.{Faults, NoMain}
use Rattle.run_control.specs.Runs.{begin_answer}
use Rattle.type_check.specs.Margin.{program_faults, IsMarginOf}
use Rattle.transcript.specs.declared.entry.Entry.TheVariants as entry
use Rattle.incr_analysis.specs.Full.{AreUnits, has_main}
use Rattle.robot_field.specs.Board.{Board}
use Rattle.kumir_meaning.specs.Program.{program_of}
use Rattle.plain_run.specs.RunEntries.{IsTraceOf, IsRunOfUnits, IsRunOf}
use Rattle.plain_run.specs.Plain.{Shows, PutsEntries}
use Rattle.plain_run.proofs.Mains.{without_fault, with_fault, refused_faults, refused_main, told_run}

-- ---- what the answer says

begins_free : (free main : Bool) (n r : ℕ) → begin_answer free main n ≡ Ok r → free ≡ true
begins_free true main n r e = refl
begins_free false main n r e = absurd (let none : ⊥ = cc in none)

refused_free : (free main : Bool) (n : ℕ) → begin_answer free main n ≡ Err NoMain → free ≡ true
refused_free true main n e = refl
refused_free false main n e = absurd (let none : ⊥ = cc in none)

refused_without : (free main : Bool) (n : ℕ) → begin_answer free main n ≡ Err NoMain → main ≡ false
refused_without true true n e = absurd (let none : ⊥ = cc in none)
refused_without true false n e = refl
refused_without false main n e = absurd (let none : ⊥ = cc in none)

refused_faulty : (free main : Bool) (n : ℕ) → begin_answer free main n ≡ Err Faults → free ≡ false
refused_faulty true true n e = absurd (let none : ⊥ = cc in none)
refused_faulty true false n e = absurd (let none : ⊥ = cc in none)
refused_faulty false main n e = refl

-- ---- and what that says of the program

abbrev IsFree : Bool → List Mark → Type 0
IsFree free marks = free ≡ (length marks == 0)

none_left : (free : Bool) (marks : List Mark) → IsFree free marks → free ≡ true → marks ≡ []
none_left free [] is e = refl
none_left free (m ∷ marks) is e = let some : (length (m ∷ marks) == 0) ≡ true = sym is ∙ e in absurd (grind (arith, nat_tests, some))

is_left : (free : Bool) (marks : List Mark) → IsFree free marks → marks ≡ [] → free ≡ true
is_left free [] is e = is
is_left free (m ∷ marks) is e = absurd (let none : ⊥ = cc in none)

free_faultless : (free : Bool) (faults : List Fault) (shown marks : List Mark) → free ≡ true → shown ≡ marks → IsFree free shown → IsMarginOf faults marks → faults ≡ []
free_faultless free faults shown marks is same e m = without_fault faults (subst (IsMarginOf faults) (sym same ∙ none_left free shown e is) m)

pub begins_faultless : (free main : Bool) (n r : ℕ) (faults : List Fault) (shown marks : List Mark) → begin_answer free main n ≡ Ok r → shown ≡ marks → IsFree free shown → IsMarginOf faults marks → faults ≡ []
begins_faultless free main n r faults shown marks e same is m = free_faultless free faults shown marks (begins_free free main n r e) same is m

pub puts_faults : (free main : Bool) (n budget r run : ℕ) (inputs : List Value) (field : Board) (units : List (ℕ × Known)) (shown marks : List Mark) (before now : SinkState) → begin_answer free main n ≡ Err Faults → shown ≡ marks → IsFree free shown → IsMarginOf (program_faults units) marks → run ≡ r → Shows (entry.RefusedFaults run ∷ []) before now → PutsEntries (IsRunOfUnits budget r inputs field units) before now
puts_faults free main n budget r run inputs field units shown marks before now e same is m number p =
    let some : program_faults units ≢ [] = with_fault (program_faults units) marks m (λ none. true≢false (sym (is_left free shown is (same ∙ none)) ∙ refused_faulty free main n e)) in
    (entry.RefusedFaults run ∷ [], subst (λ k. IsRunOfUnits budget r inputs field units (entry.RefusedFaults k ∷ [])) (sym number) (refused_faults budget r inputs field units some), p)

pub puts_main : (free main : Bool) (n budget r run : ℕ) (inputs : List Value) (field : Board) (units : List (ℕ × Known)) (shown marks : List Mark) (before now : SinkState) → begin_answer free main n ≡ Err NoMain → (free ≡ true → main ≡ has_main units) → shown ≡ marks → IsFree free shown → IsMarginOf (program_faults units) marks → run ≡ r → Shows (entry.RefusedMain run ∷ []) before now → PutsEntries (IsRunOfUnits budget r inputs field units) before now
puts_main free main n budget r run inputs field units shown marks before now e tells same is m number p =
    let free_is = refused_free free main n e in
    let faultless = free_faultless free (program_faults units) shown marks free_is same is m in
    let lacks : has_main units ≡ false = sym (tells free_is) ∙ refused_without free main n e in
    (entry.RefusedMain run ∷ [], subst (λ k. IsRunOfUnits budget r inputs field units (entry.RefusedMain k ∷ [])) (sym number) (refused_main budget r inputs field units faultless lacks), p)

-- a run that was carried out, of units that are these
pub puts_told : (budget r : ℕ) (inputs : List Value) (field : Board) (units these : List (ℕ × Known)) (before now : SinkState) → these ≡ units → program_faults units ≡ [] → has_main units ≡ true → PutsEntries (IsTraceOf budget r inputs field (program_of these)) before now → PutsEntries (IsRunOfUnits budget r inputs field units) before now
puts_told budget r inputs field units these before now same none main p =
    (p.0, told_run budget r inputs field units p.0 none main (subst (λ us. IsTraceOf budget r inputs field (program_of us) p.0) same p.1), p.2)

-- the units are those of these lines
pub puts_of_text : (budget r : ℕ) (inputs : List Value) (field : Board) (lines : List (List ℕ)) (units : List (ℕ × Known)) (before now : SinkState) → AreUnits lines units → PutsEntries (IsRunOfUnits budget r inputs field units) before now → PutsEntries (IsRunOf budget r inputs field lines) before now
puts_of_text budget r inputs field lines units before now are p = (p.0, (units, are, p.1), p.2)
