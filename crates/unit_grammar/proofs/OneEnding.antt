-- The forms of a unit or of a prelude end in exactly one way.
use Rattle.std.proofs.Common.{◌≡◌, ◌≢◌, ℕ, ◌<◌, ◌≤◌, Bool, true, false, List, [], ◌∷◌, ◌++◌, length, take, Option, Some, None, sym, ◌∙◌, subst, refl, arith, ap, append_assoc, append-nil, fold, ⊎_elim}
use Rattle.std.proofs.lemmas.List.{take-append-le, take_all}
use Rattle.std.proofs.lemmas.List.Sums.{fold-append}
use Rattle.std.proofs.lemmas.Bool.{cases_lt}
use Rattle.kumir_tree.specs.Piece as form
use Rattle.kumir_tree.specs.Piece.{Piece}
use Rattle.kumir_tree.specs.Unit.{Algorithm, Ending, Grown, Prelude, Faulty}
use Rattle.kumir_tree.specs.declared.unit.Fault.{Fault}
use Rattle.kumir_tree.specs.declared.fault_codes.TheConstants.{NESTED_TOO_DEEP, MISPLACED, NOT_CLOSED}
use Rattle.unit_grammar.specs.Grammar.{Placed, IsUnit, IsPrelude, nothing, uses}
use Rattle.unit_grammar.specs.Stages.{Stage, Start, stage_from, next, Begins, open_blocks, ◌>>=◌}
use Rattle.unit_grammar.specs.Structure.{IsFine, HasFault, misplaced, too_deep, not_closed, UnitEnds, HasOther, other, PreludeEnds, StructureEnds}
use Rattle.unit_grammar.specs.Machine.{State, Empty, Whole, step, run, stage_of}
use Rattle.unit_grammar.specs.Progress.{Going, Stopped, fault_at, reached_some, advanced, read_all, ended_at, finished}
use Rattle.unit_grammar.specs.Reading.{is_use}
use Rattle.unit_grammar.proofs.Blocks.{none_is, unit_runs}
use Rattle.unit_grammar.proofs.Led.{some_of, unit_sound}
use Rattle.unit_grammar.proofs.Preludes.{use_more, last_use}
use Rattle.unit_grammar.proofs.Reached.{stage_is, run_one, not_begun, stopped_stays, reached_low, reached_high, same_stage, same_state, unit_ends}

-- ---- prefixes of forms without a fault

stage_append : (fs gs : List Placed) (s : Stage) → stage_from s (fs ++ gs) ≡ (stage_from s fs >>= (λ later. stage_from later gs))
stage_append [] gs s = refl
stage_append (f ∷ fs) gs s =
    let go : (o : Option Stage) → (o >>= (λ later. stage_from later (fs ++ gs))) ≡ ((o >>= (λ later. stage_from later fs)) >>= (λ later. stage_from later gs)) = elim [ None ↦ refl | Some later ↦ stage_append fs gs later ] in
    go (next s f.1)

begins_before : (fs gs : List Placed) → Begins (fs ++ gs) → Begins fs
begins_before fs gs b =
    ⊎_elim
    (λ (e : stage_from Start fs ≡ None). absurd (none_is {X = ⊥} (sym (ap (λ o. o >>= (λ later. stage_from later gs)) e) ∙ (sym (stage_append fs gs Start) ∙ b.1))))
    (λ (k : (stage : Stage) × (stage_from Start fs ≡ Some stage)). k)
    (some_of (stage_from Start fs))

take_whole : (fs gs : List Placed) → take (length fs) (fs ++ gs) ≡ fs
take_whole fs gs = take-append-le (length fs) fs gs (omega arith) ∙ take_all (length fs) fs (omega arith)

fine_before : (fs gs : List Placed) → IsFine (fs ++ gs) → IsFine fs
fine_before fs gs fine = record {
  begins = begins_before fs gs fine.begins;
  shallow = λ n stage e.
      ⊎_elim
      (λ (less : n < length fs). fine.shallow n stage (ap (stage_from Start) (take-append-le n fs gs (omega arith)) ∙ e))
      (λ (more : length fs ≤ n). fine.shallow (length fs) stage (ap (stage_from Start) (take_whole fs gs) ∙ (sym (ap (stage_from Start) (take_all n fs more)) ∙ e)))
      (cases_lt n (length fs));
}

-- ---- they are read to a state

-- one more form is read
record ReadsOne (us : List Placed) (s : State) (last : ℕ) (f : Placed) : Type 0 where
  state : State
  goes : advanced (Going s last) f ≡ Going state f.0
  runs : run Empty (us ++ f ∷ []) ≡ Some state

one_read : (us : List Placed) (s : State) (last : ℕ) (f : Placed) → run Empty us ≡ Some s → IsFine (us ++ f ∷ []) → ReadsOne us s last f
one_read us s last f e fine =
    ⊎_elim
    (λ (stops : step s f ≡ None). absurd (not_begun us f (run_one us f s e ∙ ap (λ o. o >>= (λ later. Some later)) stops) fine.begins))
    (λ (k : (later : State) × (step s f ≡ Some later)).
    let runs : run Empty (us ++ f ∷ []) ≡ Some k.0 = run_one us f s e ∙ ap (λ o. o >>= (λ later. Some later)) k.1 in
    let low = fine.shallow (length (us ++ f ∷ [])) (stage_of k.0) (ap (stage_from Start) (take_all (length (us ++ f ∷ [])) (us ++ f ∷ []) (omega arith)) ∙ stage_is (us ++ f ∷ []) k.0 runs) in
    record {
      state = k.0;
      goes = ap (reached_some f.0) k.1 ∙ reached_low k.0 f.0 low;
      runs = runs;
    })
    (some_of (step s f))

record ReadsAll (us fs : List Placed) (s : State) (last : ℕ) : Type 0 where
  state : State
  line : ℕ
  goes : fold advanced (Going s last) fs ≡ Going state line
  runs : run Empty (us ++ fs) ≡ Some state

all_read : (fs us : List Placed) (s : State) (last : ℕ) → run Empty us ≡ Some s → IsFine (us ++ fs) → ReadsAll us fs s last
all_read [] us s last e fine = record {
  state = s;
  line = last;
  goes = refl;
  runs = ap (run Empty) (append-nil us) ∙ e;
}
all_read (f ∷ fs) us s last e fine =
    let whole : (us ++ f ∷ []) ++ fs ≡ us ++ f ∷ fs = append_assoc us (f ∷ []) fs in
    let fine_all : IsFine ((us ++ f ∷ []) ++ fs) = subst IsFine (sym whole) fine in
    let one = one_read us s last f e (fine_before (us ++ f ∷ []) fs fine_all) in
    let more = all_read fs (us ++ f ∷ []) one.state f.0 one.runs fine_all in
    record {
      state = more.state;
      line = more.line;
      goes = ap (λ p. fold advanced p fs) one.goes ∙ more.goes;
      runs = ap (run Empty) (sym whole) ∙ more.runs;
    }

read_fine : (fs : List Placed) → IsFine fs → ReadsAll [] fs Empty 0
read_fine fs fine = all_read fs [] Empty 0 refl fine

-- ---- units

read_behind : (fs gs : List Placed) (s : State) (last : ℕ) → read_all fs ≡ Going s last → read_all (fs ++ gs) ≡ fold advanced (Going s last) gs
read_behind fs gs s last e = fold-append advanced (Going Empty 0) fs gs ∙ ap (λ p. fold advanced p gs) e

misplaced_is : (before behind : List Placed) (line : ℕ) (f : Piece) → IsFine before → (Begins (before ++ (line, f) ∷ []) → ⊥)
    → read_all (before ++ (line, f) ∷ behind) ≡ Stopped (fault_at line MISPLACED)
misplaced_is before behind line f fine never =
    let r = read_fine before fine in
    ⊎_elim
    (λ (stops : step r.state (line, f) ≡ None).
    read_behind before ((line, f) ∷ behind) r.state r.line r.goes ∙ (ap (λ o. fold advanced (reached_some line o) behind) stops ∙ stopped_stays behind (fault_at line MISPLACED)))
    (λ (k : (later : State) × (step r.state (line, f) ≡ Some later)).
    absurd (never (stage_of k.0, stage_is (before ++ (line, f) ∷ []) k.0 (run_one before (line, f) r.state r.runs ∙ ap (λ o. o >>= (λ later. Some later)) k.1))))
    (some_of (step r.state (line, f)))

deep_is : (before behind : List Placed) (line : ℕ) (f : Piece) (stage : Stage) → IsFine before → stage_from Start (before ++ (line, f) ∷ []) ≡ Some stage → 100 < open_blocks stage
    → read_all (before ++ (line, f) ∷ behind) ≡ Stopped (fault_at line NESTED_TOO_DEEP)
deep_is before behind line f stage fine e deep =
    let r = read_fine before fine in
    ⊎_elim
    (λ (stops : step r.state (line, f) ≡ None).
    absurd (not_begun before (line, f) (run_one before (line, f) r.state r.runs ∙ ap (λ o. o >>= (λ later. Some later)) stops) (stage, e)))
    (λ (k : (later : State) × (step r.state (line, f) ≡ Some later)).
    let same : stage ≡ stage_of k.0 = same_stage (sym e ∙ stage_is (before ++ (line, f) ∷ []) k.0 (run_one before (line, f) r.state r.runs ∙ ap (λ o. o >>= (λ later. Some later)) k.1)) in
    read_behind before ((line, f) ∷ behind) r.state r.line r.goes ∙ (ap (λ o. fold advanced (reached_some line o) behind) k.1
    ∙ (ap (λ p. fold advanced p behind) (reached_high k.0 line (subst (λ t. 100 < open_blocks t) same deep)) ∙ stopped_stays behind (fault_at line NESTED_TOO_DEEP))))
    (some_of (step r.state (line, f)))

not_whole : (s : State) (last : ℕ) → ((a : Algorithm) → s ≡ Whole a → ⊥) → ended_at s last ≡ Faulty (fault_at last NOT_CLOSED ∷ [])
not_whole (Whole a) last never = absurd (never a refl)
not_whole s last never = refl

open_is : (before : List Placed) (line : ℕ) (f : Piece) → IsFine (before ++ (line, f) ∷ []) → ((a : Algorithm) → IsUnit (before ++ (line, f) ∷ []) a → ⊥)
    → finished (read_all (before ++ (line, f) ∷ [])) ≡ Faulty (fault_at line NOT_CLOSED ∷ [])
open_is before line f fine never =
    let r = read_fine before (fine_before before ((line, f) ∷ []) fine) in
    let one = one_read before r.state r.line (line, f) r.runs fine in
    ap finished (read_behind before ((line, f) ∷ []) r.state r.line r.goes ∙ one.goes)
    ∙ not_whole one.state line (λ a same. never a (unit_sound (before ++ (line, f) ∷ []) a (one.runs ∙ ap (λ s. Some s) same)))

fault_is : {fs : List Placed} {fault : Fault} → HasFault fs fault → finished (read_all fs) ≡ Faulty (fault ∷ [])
fault_is (misplaced before behind line f fine never) = ap finished (misplaced_is before behind line f fine never)
fault_is (too_deep before behind line f stage fine e deep) = ap finished (deep_is before behind line f stage fine e deep)
fault_is (not_closed before line f fine never) = open_is before line f fine never

unit_is : (fs : List Placed) (ending : Ending) → UnitEnds fs ending → ending ≡ finished (read_all fs)
unit_is fs (Grown a) ends =
    let r = read_fine fs ends.0 in
    let whole : r.state ≡ Whole a = same_state (sym r.runs ∙ unit_runs ends.1) in
    sym (ap finished r.goes ∙ ap (λ s. ended_at s r.line) whole)
unit_is fs Prelude ends = absurd ends
unit_is fs (Faulty faults) ends = ap Faulty ends.1 ∙ sym (fault_is ends.2)

-- ---- preludes

-- the first form that is no `использовать`
first_other : List Placed → Option Fault
first_other [] = None
first_other ((line, form.Uses x) ∷ fs) = first_other fs
first_other ((line, f) ∷ fs) = Some (fault_at line MISPLACED)

prelude_end : Option Fault → Ending
prelude_end None = Prelude
prelude_end (Some fault) = Faulty (fault ∷ [])

no_use : (line : ℕ) (f : Piece) (fs : List Placed) → is_use f ≡ false → first_other ((line, f) ∷ fs) ≡ Some (fault_at line MISPLACED)
unfolding first_other
no_use line (form.Uses x) fs e = absurd (let none : ⊥ = cc in none)
no_use line f fs e = refl

all_uses : {fs : List Placed} → IsPrelude fs → first_other fs ≡ None
unfolding first_other
all_uses nothing = refl
all_uses (uses line x p) = all_uses p

behind_uses : {fs : List Placed} → IsPrelude fs → (gs : List Placed) → first_other (fs ++ gs) ≡ first_other gs
unfolding first_other
behind_uses nothing gs = refl
behind_uses (uses line x p) gs = behind_uses p gs

use_or_other : (f : Piece) → ((is_use f) ≡ true → ⊥) → is_use f ≡ false
use_or_other (form.Uses x) never = absurd (never refl)
use_or_other f never = refl

other_is : {fs : List Placed} {fault : Fault} → HasOther fs fault → first_other fs ≡ Some fault
other_is (other before behind line f p never) =
    behind_uses p ((line, f) ∷ behind) ∙ no_use line f behind (use_or_other f (λ e. never (use_more before line f p e)))

prelude_is : (fs : List Placed) (ending : Ending) → PreludeEnds fs ending → ending ≡ prelude_end (first_other fs)
unfolding prelude_end
prelude_is fs (Grown a) ends = absurd ends
prelude_is fs Prelude ends = sym (ap prelude_end (all_uses ends))
prelude_is fs (Faulty faults) ends = ap Faulty ends.1 ∙ sym (ap prelude_end (other_is ends.2))

behind_use : {line : ℕ} {x : List ℕ} {fs : List Placed} → IsPrelude ((line, form.Uses x) ∷ fs) → IsPrelude fs
behind_use (uses line x p) = p

other_behind : (line : ℕ) (x : List ℕ) {fs : List Placed} {fault : Fault} → HasOther fs fault → HasOther ((line, form.Uses x) ∷ fs) fault
other_behind line x (other before behind m f p never) = other ((line, form.Uses x) ∷ before) behind m f (uses line x p) (λ q. never (behind_use q))

prelude_more : (line : ℕ) (x : List ℕ) (fs : List Placed) (o : Option Fault) → PreludeEnds fs (prelude_end o) → PreludeEnds ((line, form.Uses x) ∷ fs) (prelude_end o)
unfolding prelude_end
prelude_more line x fs None ends = uses line x ends
prelude_more line x fs (Some fault) ends = (ends.0, ends.1, other_behind line x ends.2)

other_first : (line : ℕ) (f : Piece) (fs : List Placed) → is_use f ≡ false → PreludeEnds ((line, f) ∷ fs) (Faulty (fault_at line MISPLACED ∷ []))
other_first line f fs e = (fault_at line MISPLACED, refl, other [] fs line f nothing (λ p. let both : true ≡ false = sym (last_use [] line f p) ∙ e in let none : ⊥ = cc in none))

prelude_ends : (fs : List Placed) → PreludeEnds fs (prelude_end (first_other fs))
unfolding prelude_end first_other
prelude_ends [] = nothing
prelude_ends ((line, form.Uses x) ∷ fs) = prelude_more line x fs (first_other fs) (prelude_ends fs)
prelude_ends ((line, f) ∷ fs) = other_first line f fs refl

-- ---- both

pub some_ending : (prelude : Bool) (forms : List Placed) → (prelude ≡ false → forms ≢ []) → (ending : Ending) × StructureEnds prelude forms ending
some_ending true forms some = (prelude_end (first_other forms), prelude_ends forms)
some_ending false forms some = (finished (read_all forms), unit_ends forms (some refl))

pub one_ending : (prelude : Bool) (forms : List Placed) (d e : Ending) → StructureEnds prelude forms d → StructureEnds prelude forms e → d ≡ e
one_ending true forms d e a b = prelude_is forms d a ∙ sym (prelude_is forms e b)
one_ending false forms d e a b = unit_is forms d a ∙ sym (unit_is forms e b)
