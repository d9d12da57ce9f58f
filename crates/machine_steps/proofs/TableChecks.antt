-- Facts about tables and checks.
use Rattle.std.proofs.Common.{◌≡◌, ◌≢◌, ℕ, suc, Bool, true, false, List, [], ◌∷◌, length, Result, Ok, Err, Option, Some, refl, ap, ◌∙◌, subst}
use Rattle.std.specs.Prelude.{ℤ, int_le, ◌&&◌, IfOk, if◌then◌else◌}
use Rattle.km_base.specs.declared.Memory.{Memory}
use Rattle.kumir_values.specs.declared.bounds.Bound.{Bound}
use Rattle.kumir_values.specs.declared.value.Value.{Value}
use Rattle.kumir_values.specs.declared.run_end.RunFault.{RunFault}
use Rattle.kumir_values.specs.Bounds.{inside}
use Rattle.kumir_values.specs.Tables.{changed, is_of_kind}
use Rattle.kumir_meaning.specs.Store.{Cell, Holds, TableMap, checked, with_element}
use Rattle.stack_code.specs.CodeState.{State, Frame, Plain, cell_in, next, next_with}
use Rattle.stack_code.specs.Instructions.{if_fine}
use Rattle.machine_steps.specs.declared.acted.Acted.{Acted}
use Rattle.machine_steps.specs.declared.running.Running.{Running}
use Rattle.machine_steps.specs.States.{state_of, slots_of}
use Rattle.machine_steps.specs.Acting.{Carries, Acts}
use Rattle.machine_steps.specs.Grids.{IsFine, goes}
use Rattle.machine_steps.proofs.PushedResults.{with_operands}

and_false : (a b : Bool) → b ≡ false → a && b ≡ false
and_false true b e = e
and_false false b e = refl

-- as many indexes as bounds lie within them, and no others
pub other_length : (bounds : List Bound) (index : List ℤ) → length index ≢ length bounds → inside bounds index ≡ false
other_length [] [] h = absurd (h refl)
other_length [] (i ∷ is) h = refl
other_length (b ∷ bs) [] h = refl
other_length (b ∷ bs) (i ∷ is) h = and_false (int_le b.low i && int_le i b.high) _ (other_length bs is (λ e. h (ap suc e)))

-- a check that passed, or its fault, whatever stood on top
fine_goes : {T : Type 0} (found : Result T RunFault) (u : Result (Unit {0}) RunFault) (line : ℕ) (s : State) → IsFine found u → goes u line s ≡ if_fine found line (λ t. s)
fine_goes (Ok t) (Ok u) line s h = refl
fine_goes (Ok t) (Err f) line s h = absurd h
fine_goes (Err f) (Ok u) line s h = absurd h
fine_goes (Err f) (Err g) line s h = ap (λ x. goes (Err x) line s) h

pub fine_on : {T : Type 0} (o : Result Acted Memory) (new r : Running) (xs stack : List Value) (found : Result T RunFault) (u : Result (Unit {0}) RunFault) (line : ℕ) → IsFine found u → xs ≡ stack
    → IfOk o (λ a. Carries (λ f. goes u line (next (state_of (with_operands r xs) f) xs)) a new) → IfOk o (λ a. Carries (λ f. if_fine found line (λ t. next (state_of r f) stack)) a new)
fine_on (Ok a) new r xs stack found u line h d c = λ frames.
    subst (λ v. Acts v a (state_of new frames)) (ap (λ l. goes u line (next (state_of r frames) l)) d ∙ fine_goes found u line (next (state_of r frames) stack) h) (c frames)
fine_on (Err m) new r xs stack found u line h d c = c

-- what a table does not take leaves it as it is
no_change : (b : Bool) (x t : Cell) → b ≡ false → t ≡ (if b then x else t)
no_change true x t e = absurd (let wrong : ⊥ = cc in wrong)
no_change false x t e = refl

left_false : (a b : Bool) → a ≡ false → a && b ≡ false
left_false true b e = absurd (let wrong : ⊥ = cc in wrong)
left_false false b e = refl

abbrev with_it : TableMap → List ℤ → Option Value → Cell
with_it t index v = Holds (record { kind = t.kind; bounds = t.bounds; values = changed t.values index v })

pub outside_kept : (t : TableMap) (index : List ℤ) (v : Option Value) → inside t.bounds index ≡ false → Holds t ≡ with_element (Holds t) index v
outside_kept t index v e = no_change (inside t.bounds index && is_of_kind t.kind v) (with_it t index v) (Holds t) (left_false _ (is_of_kind t.kind v) e)

pub other_kind_kept : (t : TableMap) (index : List ℤ) (v : Option Value) → is_of_kind t.kind v ≡ false → Holds t ≡ with_element (Holds t) index v
other_kind_kept t index v e = no_change (inside t.bounds index && is_of_kind t.kind v) (with_it t index v) (Holds t) (and_false (inside t.bounds index) _ e)

-- an element stored, whatever stood on top
pub put_on : (o : Result Acted Memory) (new r : Running) (xs stack : List Value) (i index : List ℤ) (v value : Value) (slot line : ℕ) → i ≡ index → xs ≡ stack → v ≡ value
    → IfOk o (λ a. Carries (λ f. if_fine (checked (cell_in (slots_of r.slots slot)) i) line (λ at. next_with (state_of (with_operands r xs) f) xs slot (Plain (with_element (cell_in (slots_of r.slots slot)) at (Some v))))) a new)
    → IfOk o (λ a. Carries (λ f. if_fine (checked (cell_in (slots_of r.slots slot)) index) line (λ at. next_with (state_of r f) stack slot (Plain (with_element (cell_in (slots_of r.slots slot)) at (Some value))))) a new)
put_on (Ok a) new r xs stack i index v value slot line ei ex ev h = λ frames.
    subst (λ z. P frames index stack z) ev (subst (λ z. P frames index z v) ex (subst (λ z. P frames z xs v) ei (h frames)))
  where
    P : List Frame → List ℤ → List Value → Value → Type 0
    P f i xs v = Acts (if_fine (checked (cell_in (slots_of r.slots slot)) i) line (λ at. next_with (state_of r f) xs slot (Plain (with_element (cell_in (slots_of r.slots slot)) at (Some v))))) a (state_of new f)
put_on (Err m) new r xs stack i index v value slot line ei ex ev h = h

pub fine_with : {T : Type 0} (found : List ℤ → Result T RunFault) (i index : List ℤ) (u : Result (Unit {0}) RunFault) → i ≡ index → IsFine (found i) u → IsFine (found index) u
fine_with found i index u e h = subst (λ z. IsFine (found z) u) e h
