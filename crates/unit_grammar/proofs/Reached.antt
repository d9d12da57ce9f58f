-- What the reading of all forms comes to.
use Rattle.std.proofs.Common.{zero, suc, ◌≡◌, ◌≢◌, ℕ, ◌+◌, ◌<◌, ◌≤◌, Bool, true, false, List, [], ◌∷◌, ◌++◌, length, take, Some, None, sym, ◌∙◌, subst, refl, arith, ap, append_assoc, append-nil, fold, ◌⊎◌, inl, inr, ⊎_elim, length-append, IsTrue, ◌↔◌}
use Rattle.std.proofs.lemmas.List.{take-append-le, take_all}
use Rattle.std.proofs.lemmas.Bool.{cases_lt}
use Rattle.std.proofs.lemmas.Bool.Decides.{nat_tests}
use Rattle.kumir_tree.specs.Piece.{Piece}
use Rattle.kumir_tree.specs.Unit.{Algorithm, Ending}
use Rattle.kumir_tree.specs.declared.unit.Fault.{Fault}
use Rattle.kumir_tree.specs.declared.fault_codes.TheConstants.{NESTED_TOO_DEEP, MISPLACED, NOT_CLOSED}
use Rattle.unit_grammar.specs.Grammar.{Placed, IsUnit}
use Rattle.unit_grammar.specs.Stages.{Stage, Start, stage_from, Begins, open_blocks, ◌>>=◌}
use Rattle.unit_grammar.specs.Structure.{IsFine, IsShallow, HasFault, misplaced, too_deep, not_closed, UnitEnds}
use Rattle.unit_grammar.specs.Machine.{State, Empty, AfterHeader, AfterGiven, AfterWanted, Inside, NeedsThen, NeedsCase, Whole, step, run, stage_of}
use Rattle.unit_grammar.specs.Progress.{Progress, Going, Stopped, fault_at, reached, reached_some, advanced, read_all, finished}
use Rattle.unit_grammar.proofs.Blocks.{none_is, unit_runs}
use Rattle.unit_grammar.proofs.Led.{some_of, unit_sound}
use Rattle.unit_grammar.proofs.Prefixes.{run_seen, run_append, seen}

-- the line of the last form
abbrev LastLine : List Placed → ℕ → Type 0
LastLine fs last = (fs ≡ []) ⊎ ((before : List Placed) × (f : Piece) × (fs ≡ before ++ (last, f) ∷ []))

-- the forms lead to this state without a fault
record Stays (fs : List Placed) (s : State) (last : ℕ) : Type 0 where
  runs : run Empty fs ≡ Some s
  shallow : IsShallow fs
  line : LastLine fs last

abbrev ComesTo : List Placed → Progress → Type 0
ComesTo fs (Going s last) = Stays fs s last
ComesTo fs (Stopped fault) = HasFault fs fault

pub stage_is : (fs : List Placed) (s : State) → run Empty fs ≡ Some s → stage_from Start fs ≡ Some (stage_of s)
stage_is fs s e = sym (run_seen fs Empty) ∙ ap seen e

pub run_one : (fs : List Placed) (f : Placed) (s : State) → run Empty fs ≡ Some s → run Empty (fs ++ f ∷ []) ≡ step s f >>= (λ later. Some later)
run_one fs f s e = run_append fs (f ∷ []) Empty ∙ ap (λ o. o >>= (λ later. run later (f ∷ []))) e

fine : (fs : List Placed) (s : State) (last : ℕ) → Stays fs s last → IsFine fs
fine fs s last h = record { begins = (stage_of s, stage_is fs s h.runs); shallow = h.shallow }

pub stopped_stays : (fs : List Placed) (fault : Fault) → fold advanced (Stopped fault) fs ≡ Stopped fault
stopped_stays [] fault = refl
stopped_stays (f ∷ fs) fault = stopped_stays fs fault

pub not_begun : (fs : List Placed) (f : Placed) → run Empty (fs ++ f ∷ []) ≡ None → Begins (fs ++ f ∷ []) → ⊥
not_begun fs f e b = none_is {X = ⊥} (ap seen (sym e) ∙ (run_seen (fs ++ f ∷ []) Empty ∙ b.1))

pub same_stage : {a b : Stage} → Some a ≡ Some b → a ≡ b
same_stage h = cc

shallow_one : (fs : List Placed) (f : Placed) (s : State) → IsShallow fs → run Empty (fs ++ f ∷ []) ≡ Some s → open_blocks (stage_of s) ≤ 100 → IsShallow (fs ++ f ∷ [])
shallow_one fs f s h e low n stage t =
    ⊎_elim
    (λ (less : n < length fs + 1).
    let le : n ≤ length fs = omega arith in
    h n stage (sym (ap (stage_from Start) (take-append-le n fs (f ∷ []) le)) ∙ t))
    (λ (more : length fs + 1 ≤ n).
    let whole : take n (fs ++ f ∷ []) ≡ fs ++ f ∷ [] = take_all n (fs ++ f ∷ []) (omega (arith, length-append fs (f ∷ []))) in
    let same : stage_of s ≡ stage = same_stage (sym (stage_is (fs ++ f ∷ []) s e) ∙ (sym (ap (stage_from Start) whole) ∙ t)) in
    subst (λ k. open_blocks k ≤ 100) same low)
    (cases_lt n (length fs + 1))

pub reached_low : (s : State) (line : ℕ) → open_blocks (stage_of s) ≤ 100 → reached s line ≡ Going s line
reached_low s line h = grind (arith, nat_tests)

pub reached_high : (s : State) (line : ℕ) → 100 < open_blocks (stage_of s) → reached s line ≡ Stopped (fault_at line NESTED_TOO_DEEP)
reached_high s line h = grind (arith, nat_tests)

comes : (fs us : List Placed) (s : State) (last : ℕ) → Stays us s last → ComesTo (us ++ fs) (fold advanced (Going s last) fs)
comes [] us s last h = subst (λ l. Stays l s last) (sym (append-nil us)) h
comes (f ∷ fs) us s last h =
    ⊎_elim
    (λ (e : step s f ≡ None).
    subst (ComesTo (us ++ f ∷ fs)) (sym (ap (λ o. fold advanced (reached_some f.0 o) fs) e ∙ stopped_stays fs (fault_at f.0 MISPLACED)))
    (misplaced us fs f.0 f.1 (fine us s last h) (not_begun us f (run_one us f s h.runs ∙ ap (λ o. o >>= (λ later. Some later)) e))))
    (λ (k : (later : State) × (step s f ≡ Some later)).
    let runs : run Empty (us ++ f ∷ []) ≡ Some k.0 = run_one us f s h.runs ∙ ap (λ o. o >>= (λ later. Some later)) k.1 in
    ⊎_elim
    (λ (deep : 100 < open_blocks (stage_of k.0)).
    subst (ComesTo (us ++ f ∷ fs)) (sym (ap (λ o. fold advanced (reached_some f.0 o) fs) k.1 ∙ (ap (λ p. fold advanced p fs) (reached_high k.0 f.0 deep) ∙ stopped_stays fs (fault_at f.0 NESTED_TOO_DEEP))))
    (too_deep us fs f.0 f.1 (stage_of k.0) (fine us s last h) (stage_is (us ++ f ∷ []) k.0 runs) deep))
    (λ (low : open_blocks (stage_of k.0) ≤ 100).
    subst (ComesTo (us ++ f ∷ fs)) (sym (ap (λ o. fold advanced (reached_some f.0 o) fs) k.1 ∙ ap (λ p. fold advanced p fs) (reached_low k.0 f.0 low)))
    (subst (λ l. ComesTo l (fold advanced (Going k.0 f.0) fs)) (append_assoc us (f ∷ []) fs)
    (comes fs (us ++ f ∷ []) k.0 f.0 (record { runs = runs; shallow = shallow_one us f k.0 h.shallow runs low; line = inr (us, f.1, refl) }))))
    (cases_lt 100 (open_blocks (stage_of k.0))))
    (some_of (step s f))

open_empty : IsShallow []
open_empty zero stage e = subst (λ k. open_blocks k ≤ 100) (same_stage e) (omega arith)
open_empty (suc n) stage e = subst (λ k. open_blocks k ≤ 100) (same_stage e) (omega arith)

pub same_state : {a b : State} → Some a ≡ Some b → a ≡ b
same_state h = cc

-- a state that is no whole algorithm
left_open : (fs : List Placed) (s : State) (last : ℕ) → ((a : Algorithm) → s ≡ Whole a → ⊥) → fs ≢ [] → Stays fs s last → HasFault fs (fault_at last NOT_CLOSED)
left_open fs s last none some h =
    ⊎_elim
    (λ (e : fs ≡ []). absurd (some e))
    (λ (k : (before : List Placed) × (f : Piece) × (fs ≡ before ++ (last, f) ∷ [])).
    subst (λ l. HasFault l (fault_at last NOT_CLOSED)) (sym k.2)
    (not_closed k.0 last k.1 (subst IsFine k.2 (fine fs s last h)) (λ a u. none a (same_state (sym h.runs ∙ unit_runs (subst (λ l. IsUnit l a) (sym k.2) u))))))
    h.line

ends : (fs : List Placed) (p : Progress) → fs ≢ [] → ComesTo fs p → UnitEnds fs (finished p)
ends fs (Going (Whole a) last) some h = (fine fs (Whole a) last h, unit_sound fs a h.runs)
ends fs (Going Empty last) some h = (fault_at last NOT_CLOSED, refl, left_open fs Empty last (λ a e. let none : ⊥ = cc in none) some h)
ends fs (Going (AfterHeader t) last) some h = (fault_at last NOT_CLOSED, refl, left_open fs (AfterHeader t) last (λ a e. let none : ⊥ = cc in none) some h)
ends fs (Going (AfterGiven t) last) some h = (fault_at last NOT_CLOSED, refl, left_open fs (AfterGiven t) last (λ a e. let none : ⊥ = cc in none) some h)
ends fs (Going (AfterWanted t) last) some h = (fault_at last NOT_CLOSED, refl, left_open fs (AfterWanted t) last (λ a e. let none : ⊥ = cc in none) some h)
ends fs (Going (Inside t b) last) some h = (fault_at last NOT_CLOSED, refl, left_open fs (Inside t b) last (λ a e. let none : ⊥ = cc in none) some h)
ends fs (Going (NeedsThen t b m c) last) some h = (fault_at last NOT_CLOSED, refl, left_open fs (NeedsThen t b m c) last (λ a e. let none : ⊥ = cc in none) some h)
ends fs (Going (NeedsCase t b m) last) some h = (fault_at last NOT_CLOSED, refl, left_open fs (NeedsCase t b m) last (λ a e. let none : ⊥ = cc in none) some h)
ends fs (Stopped fault) some h = (fault, refl, h)

-- forms that are read are a unit, or have their first fault
pub unit_ends : (fs : List Placed) → fs ≢ [] → UnitEnds fs (finished (read_all fs))
unit_ends fs some = ends fs (read_all fs) some (comes fs [] Empty 0 (record { runs = refl; shallow = open_empty; line = inl refl }))

pub grown : (fs : List Placed) (p : Progress) (ending : Ending) → fs ≢ [] → p ≡ read_all fs → ending ≡ finished p → UnitEnds fs ending
grown fs p ending some e f = subst (UnitEnds fs) (sym (f ∙ ap finished e)) (unit_ends fs some)

-- ---- by a test of the depth

pub reached_deep : (r : Bool) (s : State) (line : ℕ) → IsTrue r ↔ (100 < open_blocks (stage_of s)) → r ≡ true → Stopped (fault_at line NESTED_TOO_DEEP) ≡ reached s line
reached_deep r s line is t = sym (reached_high s line (is.0 t))

pub reached_open : (r : Bool) (s : State) (line : ℕ) → IsTrue r ↔ (100 < open_blocks (stage_of s)) → r ≡ false → Going s line ≡ reached s line
reached_open r s line is f =
    ⊎_elim
    (λ (deep : 100 < open_blocks (stage_of s)). let both : true ≡ false = sym (is.1 deep) ∙ f in absurd (let none : ⊥ = cc in none))
    (λ (low : open_blocks (stage_of s) ≤ 100). sym (reached_low s line low))
    (cases_lt 100 (open_blocks (stage_of s)))
