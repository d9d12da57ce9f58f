-- Programs without a fault, with an algorithm to begin with.
use Rattle.std.proofs.Common.{◌≡◌, ◌≢◌, ℕ, Bool, true, false, List, [], ◌∷◌, ◌++◌, map, length, Option, Some, refl, sym, ap, ◌∙◌, arith}
use Rattle.km_base.specs.declared.performers.Performers.{Performers}
use Rattle.kumir_tree.specs.declared.unit.Fault.{Fault}
use Rattle.kumir_tree.specs.Part.{Head, Formal}
use Rattle.kumir_tree.specs.Unit.{Ending, Grown, Prelude, Faulty, Known}
use Rattle.kumir_tree.specs.Sound.{IsSound, EndsUnit}
use Rattle.kumir_values.specs.declared.value.Value.{Value}
use Rattle.kumir_meaning.specs.Program.{program_of}
use Rattle.kumir_meaning.specs.Runs.{Trace}
use Rattle.kumir_compiler.specs.Code.{without_params, entry_of}
use Rattle.margins.specs.declared.margin.Mark.{Mark}
use Rattle.type_rules.specs.Counted.{headers_in, header_faults}
use Rattle.type_rules.specs.Callees.{callee}
use Rattle.type_check.specs.Margin.{on_line, placed_faults, all_placed_faults, program_faults, IsMarginOf}
use Rattle.transcript.specs.declared.entry.Entry.{Entry}
use Rattle.transcript.specs.declared.entry.Entry.TheVariants as entry
use Rattle.incr_analysis.specs.Full.{is_empty, takes_nothing, has_main}
use Rattle.plain_run.specs.Runnable.{IsRunnable}
use Rattle.robot_field.specs.Board.{Board}
use Rattle.closed_meaning.proofs.Plays.{one_play}
use Rattle.closed_meaning.proofs.Known.{known_laws}
use Rattle.plain_run.specs.RunEntries.{begun_entries, run_entries, IsTraceOf, IsRunOfUnits}

-- ---- the entry

left_none : {T : Type 0} (xs ys : List T) → xs ++ ys ≡ [] → xs ≡ []
left_none [] ys e = refl
left_none (x ∷ xs) ys e = absurd (let none : ⊥ = cc in none)

right_none : {T : Type 0} (xs ys : List T) → xs ++ ys ≡ [] → ys ≡ []
right_none [] ys e = e
right_none (x ∷ xs) ys e = absurd (let none : ⊥ = cc in none)

none_mapped : {S T : Type 0} (f : S → T) (xs : List S) → map f xs ≡ [] → xs ≡ []
none_mapped f [] e = refl
none_mapped f (x ∷ xs) e = absurd (let none : ⊥ = cc in none)

empty_enters : (params : List Formal) → is_empty params ≡ true → without_params params ≡ Some 0
empty_enters [] e = refl
empty_enters (p ∷ params) e = absurd (let none : ⊥ = cc in none)

-- the first unit by how its reading ended
unit_enters : (prelude : ℕ × Known) (first : ℕ) (head : Option Head) (performers : Performers) (unknown : List Fault) (ending : Ending) (more : List (ℕ × Known))
    → EndsUnit head ending → program_faults (prelude ∷ ((first, record { head = head; performers = performers; unknown = unknown; ending = ending }) ∷ more)) ≡ [] → takes_nothing head ≡ true
    → entry_of (program_of (prelude ∷ ((first, record { head = head; performers = performers; unknown = unknown; ending = ending }) ∷ more))) ≡ Some 0
unit_enters prelude first head performers unknown (Grown a) more ends faultless main = empty_enters a.head.params (sym (ap takes_nothing ends) ∙ main)
unit_enters prelude first head performers unknown Prelude more ends faultless main = absurd ends
unit_enters prelude first head performers unknown (Faulty faults) more ends faultless main =
    let u : ℕ × Known = (first, record { head = head; performers = performers; unknown = unknown; ending = Faulty faults }) in
    let units = prelude ∷ (u ∷ more) in
    let find = callee (headers_in units) in
    let all = left_none (all_placed_faults find units) (header_faults units) faultless in
    let behind = right_none (placed_faults find prelude) (placed_faults find u ++ all_placed_faults find more) all in
    let own = left_none (placed_faults find u) (all_placed_faults find more) behind in
    absurd (ends (none_mapped (on_line first) faults (left_none (map (on_line first) faults) (map (on_line first) unknown) own)))

enters : (units : List (ℕ × Known)) → IsSound units → program_faults units ≡ [] → has_main units ≡ true → entry_of (program_of units) ≡ Some 0
enters [] sound faultless main = absurd sound
enters (prelude ∷ []) sound faultless main = absurd (let none : ⊥ = cc in none)
enters (prelude ∷ (u ∷ more)) sound faultless main =
    unit_enters prelude u.0 u.1.head u.1.performers u.1.unknown u.1.ending more sound.2.0.0.0 faultless main

pub runnable_enters : (units : List (ℕ × Known)) → IsRunnable units → entry_of (program_of units) ≡ Some 0
runnable_enters units r = enters units r.sound r.faultless r.main

-- ---- margins

pub without_fault : (faults : List Fault) → IsMarginOf faults [] → faults ≡ []
without_fault [] m = refl
without_fault (f ∷ faults) m = let found = m.least f (0, omega arith, refl) in absurd (omega (arith, found.1.1))

pub with_fault : (faults : List Fault) (marks : List Mark) → IsMarginOf faults marks → marks ≢ [] → faults ≢ []
with_fault faults [] m some none = some refl
with_fault faults (x ∷ marks) m some none =
    let found = m.stands x (0, omega arith, refl) in
    absurd (omega (arith, found.1, ap length none))

-- ---- the entries of a run

refused_checked : (faults : List Fault) (main : Bool) (r : ℕ) (field : Board) (play : Trace) → faults ≢ [] → run_entries faults main r field play ≡ entry.RefusedFaults r ∷ []
refused_checked [] main r field play some = absurd (some refl)
refused_checked (f ∷ faults) main r field play some = refl

pub refused_faults : (budget r : ℕ) (inputs : List Value) (field : Board) (units : List (ℕ × Known)) → program_faults units ≢ [] → IsRunOfUnits budget r inputs field units (entry.RefusedFaults r ∷ [])
refused_faults budget r inputs field units some =
    let w = one_play known_laws (program_of units) inputs field budget in
    (w.0, w.1, sym (refused_checked (program_faults units) (has_main units) r field w.0 some))

-- where there is no fault
begun_so : (r : ℕ) (field : Board) (units : List (ℕ × Known)) (main : Bool) (play : Trace) → program_faults units ≡ [] → has_main units ≡ main → run_entries (program_faults units) (has_main units) r field play ≡ begun_entries main r field play
begun_so r field units main play none is = ap (λ fs. run_entries fs (has_main units) r field play) none ∙ ap (λ b. begun_entries b r field play) is

pub refused_main : (budget r : ℕ) (inputs : List Value) (field : Board) (units : List (ℕ × Known)) → program_faults units ≡ [] → has_main units ≡ false → IsRunOfUnits budget r inputs field units (entry.RefusedMain r ∷ [])
refused_main budget r inputs field units none main =
    let w = one_play known_laws (program_of units) inputs field budget in
    (w.0, w.1, sym (begun_so r field units false w.0 none main))

pub told_run : (budget r : ℕ) (inputs : List Value) (field : Board) (units : List (ℕ × Known)) (entries : List Entry) → program_faults units ≡ [] → has_main units ≡ true → IsTraceOf budget r inputs field (program_of units) entries → IsRunOfUnits budget r inputs field units entries
told_run budget r inputs field units entries none main t = (t.0, t.1, t.2 ∙ sym (begun_so r field units true t.0 none main))
