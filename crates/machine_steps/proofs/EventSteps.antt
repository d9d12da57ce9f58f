-- Each event steps to its next state.
use Rattle.std.proofs.Common.{◌≡◌, ℕ, zero, suc, ◌+◌, List, [], ◌∷◌, ◌++◌, Ok, Option, Some, None, refl, sym, ap, ◌∙◌, arith, append_assoc, append-nil}
use Rattle.kumir_tree.specs.declared.kind.Kind.{Kind}
use Rattle.performer_kit.specs.declared.commands.Command.{Command}
use Rattle.performer_kit.specs.declared.commands.Reply.{Reply}
use Rattle.kumir_values.specs.declared.value.Value.{Value}
use Rattle.kumir_meaning.specs.Runs.{Act, Sent, RunState, Trace, only, input_as, usual, IsPrefix}
use Rattle.stack_code.specs.declared.unit.CodeUnit.{CodeUnit}
use Rattle.stack_code.specs.CodeState.{State}
use Rattle.stack_code.specs.Instructions.{After, On, Event, Go, Tick, Does, Asks, Takes, step}
use Rattle.stack_code.specs.CodeRuns.{after_some, after_reply, after_input, meet, exec, start, CodeRun}
use Rattle.machine_steps.specs.Progress.{after_acts, FullState, at, StepsTo}

none_more : (n : ℕ) → 0 + n ≡ n
none_more n = omega arith

one_more : (n : ℕ) → 1 + n ≡ suc n
one_more n = omega arith

nothing_more : {P : Type 0} (t : Trace) → None ≡ Some t → P
nothing_more t e = cc

some_is : (t u : Trace) → Some t ≡ Some u → t ≡ u
some_is t u e = cc

two_acts : (x y : List Act) (t : Trace) → after_acts x (after_acts y t) ≡ after_acts (x ++ y) t
two_acts x y t = ap (λ l. record { acts = l; state = t.state }) (sym (append_assoc x y t.acts))

pub steps_to_none : (units : List CodeUnit) (a : FullState) → StepsTo units a 0 [] [] a
steps_to_none units a = record {
  forth = λ n replies j t e. (j, ap (λ w. exec usual units j a.state w a.inputs replies) (none_more n) ∙ e);
  back = λ n replies i t e. (i, t, ap (λ w. exec usual units i a.state w a.inputs replies) (sym (none_more n)) ∙ e, refl);
}

pub steps_to_both : (units : List CodeUnit) (a b c : FullState) (m k : ℕ) (g h : List Reply) (x y : List Act) → StepsTo units a m g x b → StepsTo units b k h y c → StepsTo units a (m + k) (g ++ h) (x ++ y) c
steps_to_both units a b c m k g h x y p q = record {
  forth = λ n replies j t e.
      let u = q.forth n replies j t e in
      let v = p.forth (k + n) (h ++ replies) u.0 (after_acts y t) u.1 in
      let z : m + k + n ≡ m + (k + n) = omega arith in
      (v.0, ap (λ w. exec usual units v.0 a.state w a.inputs ((g ++ h) ++ replies)) z ∙ ap (λ w. exec usual units v.0 a.state (m + (k + n)) a.inputs w) (append_assoc g h replies) ∙ v.1 ∙ ap Some (two_acts x y t));
  back = λ n replies i t e.
      let z : m + (k + n) ≡ m + k + n = omega arith in
      let v = p.back (k + n) (h ++ replies) i t (ap (λ w. exec usual units i a.state w a.inputs (g ++ (h ++ replies))) z ∙ ap (λ w. exec usual units i a.state (m + k + n) a.inputs w) (sym (append_assoc g h replies)) ∙ e) in
      let u = q.back n replies v.0 v.1 v.2 in
      (u.0, u.1, u.2, v.3 ∙ ap (after_acts x) u.3 ∙ two_acts x y u.1);
}

-- ---- one event
go_forth : (units : List CodeUnit) (s : State) (v : Event) (j n : ℕ) (inputs : List Value) (replies : List Reply) (o : Option Trace) → step usual units s ≡ v → meet v (exec usual units j) n inputs replies ≡ o → exec usual units (suc j) s n inputs replies ≡ o
go_forth units s v j n inputs replies o h e = ap (λ w. meet w (exec usual units j) n inputs replies) h ∙ e

-- a run that is over has carried out the event
data Met (units : List CodeUnit) (v : Event) (n : ℕ) (inputs : List Value) (replies : List Reply) (t : Trace) : Type 0 where
  By : (j : ℕ) → meet v (exec usual units j) n inputs replies ≡ Some t → Met units v n inputs replies t

go_back : (units : List CodeUnit) (s : State) (v : Event) (i n : ℕ) (inputs : List Value) (replies : List Reply) (t : Trace) → step usual units s ≡ v → exec usual units i s n inputs replies ≡ Some t → Met units v n inputs replies t
go_back units s v zero n inputs replies t h e = nothing_more t e
go_back units s v (suc j) n inputs replies t h e = By j (ap (λ w. meet w (exec usual units j) n inputs replies) (sym h) ∙ e)

pub steps_to_go : (units : List CodeUnit) (s m : State) (inputs : List Value) → step usual units s ≡ Go m → StepsTo units (at s inputs) 0 [] [] (at m inputs)
steps_to_go units s m inputs h = record {
  forth = λ n replies j t e. (suc j, ap (λ w. exec usual units (suc j) s w inputs replies) (none_more n) ∙ go_forth units s (Go m) j n inputs replies (Some t) h e);
  back = λ n replies i t e. back n replies t (go_back units s (Go m) i n inputs replies t h (ap (λ w. exec usual units i s w inputs replies) (sym (none_more n)) ∙ e));
}
  where
    back : (n : ℕ) (replies : List Reply) (t : Trace) → Met units (Go m) n inputs replies t → (j : ℕ) × (u : Trace) × (exec usual units j m n inputs replies ≡ Some u) × (t ≡ after_acts [] u)
    back n replies t (By j e) = (j, t, e, refl)

pub steps_to_tick : (units : List CodeUnit) (s m : State) (inputs : List Value) → step usual units s ≡ Tick m → StepsTo units (at s inputs) 1 [] [] (at m inputs)
steps_to_tick units s m inputs h = record {
  forth = λ n replies j t e. (suc j, ap (λ w. exec usual units (suc j) s w inputs replies) (one_more n) ∙ go_forth units s (Tick m) j (suc n) inputs replies (Some t) h e);
  back = λ n replies i t e. back n replies t (go_back units s (Tick m) i (suc n) inputs replies t h (ap (λ w. exec usual units i s w inputs replies) (sym (one_more n)) ∙ e));
}
  where
    back : (n : ℕ) (replies : List Reply) (t : Trace) → Met units (Tick m) (suc n) inputs replies t → (j : ℕ) × (u : Trace) × (exec usual units j m n inputs replies ≡ Some u) × (t ≡ after_acts [] u)
    back n replies t (By j e) = (j, t, e, refl)

one_first : (a : Act) (o : Option Trace) (t : Trace) → after_some a o ≡ Some t → (u : Trace) × (o ≡ Some u) × (t ≡ after_acts (a ∷ []) u)
one_first a None t e = nothing_more t e
one_first a (Some u) t e = (u, refl, sym (some_is _ t e))

pub steps_to_act : (units : List CodeUnit) (s m : State) (inputs : List Value) (a : Act) → step usual units s ≡ Does a m → StepsTo units (at s inputs) 0 [] (a ∷ []) (at m inputs)
steps_to_act units s m inputs a h = record {
  forth = λ n replies j t e. (suc j, ap (λ w. exec usual units (suc j) s w inputs replies) (none_more n) ∙ go_forth units s (Does a m) j n inputs replies _ h (ap (after_some a) e));
  back = λ n replies i t e. back n replies t (go_back units s (Does a m) i n inputs replies t h (ap (λ w. exec usual units i s w inputs replies) (sym (none_more n)) ∙ e));
}
  where
    back : (n : ℕ) (replies : List Reply) (t : Trace) → Met units (Does a m) n inputs replies t → (j : ℕ) × (u : Trace) × (exec usual units j m n inputs replies ≡ Some u) × (t ≡ after_acts (a ∷ []) u)
    back n replies t (By j e) = let f = one_first a (exec usual units j m n inputs replies) t e in (j, f.0, f.1, f.2)

pub steps_to_reply : (units : List CodeUnit) (s m : State) (inputs : List Value) (c : Command) (after : Reply → After) (r : Reply) → step usual units s ≡ Asks c after → after r ≡ On m → StepsTo units (at s inputs) 0 (r ∷ []) (Sent c ∷ []) (at m inputs)
steps_to_reply units s m inputs c after r h o = record {
  forth = λ n replies j t e. (suc j, ap (λ w. exec usual units (suc j) s w inputs (r ∷ replies)) (none_more n) ∙ go_forth units s (Asks c after) j n inputs (r ∷ replies) _ h (ap (λ w. after_some (Sent c) (after_reply w (exec usual units j) n inputs replies)) o ∙ ap (after_some (Sent c)) e));
  back = λ n replies i t e. back n replies t (go_back units s (Asks c after) i n inputs (r ∷ replies) t h (ap (λ w. exec usual units i s w inputs (r ∷ replies)) (sym (none_more n)) ∙ e));
}
  where
    back : (n : ℕ) (replies : List Reply) (t : Trace) → Met units (Asks c after) n inputs (r ∷ replies) t → (j : ℕ) × (u : Trace) × (exec usual units j m n inputs replies ≡ Some u) × (t ≡ after_acts (Sent c ∷ []) u)
    back n replies t (By j e) =
        let f = one_first (Sent c) (after_reply (after r) (exec usual units j) n inputs replies) t e in
        (j, f.0, ap (λ w. after_reply w (exec usual units j) n inputs replies) (sym o) ∙ f.1, f.2)

pub steps_to_input : (units : List CodeUnit) (s : State) (kind : Kind) (line : ℕ) (k : Value → State) (v w : Value) (inputs : List Value) → step usual units s ≡ Takes kind line k → input_as kind v ≡ Ok w → StepsTo units (at s (v ∷ inputs)) 0 [] [] (at (k w) inputs)
steps_to_input units s kind line k v w inputs h o = record {
  forth = λ n replies j t e. (suc j, ap (λ w. exec usual units (suc j) s w (v ∷ inputs) replies) (none_more n) ∙ go_forth units s (Takes kind line k) j n (v ∷ inputs) replies _ h (ap (λ x. after_input x line k (exec usual units j) n inputs replies) o ∙ e));
  back = λ n replies i t e. back n replies t (go_back units s (Takes kind line k) i n (v ∷ inputs) replies t h (ap (λ w. exec usual units i s w (v ∷ inputs) replies) (sym (none_more n)) ∙ e));
}
  where
    back : (n : ℕ) (replies : List Reply) (t : Trace) → Met units (Takes kind line k) n (v ∷ inputs) replies t → (j : ℕ) × (u : Trace) × (exec usual units j (k w) n inputs replies ≡ Some u) × (t ≡ after_acts [] u)
    back n replies t (By j e) = (j, t, ap (λ x. after_input x line k (exec usual units j) n inputs replies) (sym o) ∙ e, refl)

-- ---- what a run has come to
no_more : (acts : List Act) (e : RunState) → after_acts acts (only e) ≡ record { acts = acts; state = e }
no_more acts e = ap (λ l. record { acts = l; state = e }) (append-nil acts)

-- the acts so far begin those of the run within the steps taken
pub so_far : (units : List CodeUnit) (entry taken : ℕ) (inputs : List Value) (given : List Reply) (acts : List Act) (b : FullState) → StepsTo units (at (start entry) inputs) taken given acts b
    → (t : Trace) → CodeRun units entry inputs given taken t → IsPrefix acts t.acts
so_far units entry taken inputs given acts b p t r =
    let z : taken + 0 ≡ taken = omega arith in
    let e = ap (λ w. exec usual units r.instructions (start entry) w inputs (given ++ [])) z ∙ ap (λ w. exec usual units r.instructions (start entry) taken inputs w) (append-nil given) ∙ r.ends in
    let v = p.back 0 [] r.instructions t e in
    (v.1.acts, ap (λ x. x.acts) v.3)

-- one instruction that ends the run on these replies within these steps
pub ends_so : (units : List CodeUnit) (entry taken n all : ℕ) (inputs : List Value) (given : List Reply) (acts more : List Act) (b : FullState) (e : RunState)
    → StepsTo units (at (start entry) inputs) taken given acts b → taken + n ≡ all
    → meet (step usual units b.state) (exec usual units 0) n b.inputs [] ≡ Some (record { acts = more; state = e })
    → CodeRun units entry inputs given all (record { acts = acts ++ more; state = e })
ends_so units entry taken n all inputs given acts more b e p sum h =
    let v = p.forth n [] 1 _ h in
    record { instructions = v.0; ends = ap (λ w. exec usual units v.0 (start entry) w inputs given) (sym sum) ∙ ap (λ w. exec usual units v.0 (start entry) (taken + n) inputs w) (sym (append-nil given)) ∙ v.1 }
