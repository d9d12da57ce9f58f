-- More steps and more replies only make a run longer, and a run is one.
use Rattle.std.proofs.Common.{◌≡◌, ℕ, zero, suc, ◌≤◌, List, [], ◌∷◌, ◌++◌, Result, Ok, Err, Option, Some, None, refl, sym, ap, ◌∙◌, subst, arith, append-nil}
use Rattle.performer_kit.specs.declared.commands.Reply.{Reply}
use Rattle.kumir_values.specs.declared.value.Value.{Value}
use Rattle.kumir_values.specs.declared.run_end.RunFault.{RunFault}
use Rattle.kumir_meaning.specs.Runs.{Act, Sent, RunState, Trace, only, after_act, input_as, Allowed, IsPrefix}
use Rattle.stack_code.specs.declared.unit.CodeUnit.{CodeUnit}
use Rattle.stack_code.specs.CodeState.{State}
use Rattle.stack_code.specs.Instructions.{After, On, Over, Event, Go, Tick, Does, Asks, Takes, Halt, step}
use Rattle.stack_code.specs.CodeRuns.{Continuation, after_some, after_reply, after_input, meet, exec, start, HasOneTrace, OnlyGrows}

-- of two runs from one state the one with less is a prefix of the other
record Below (f g : Continuation) : Type 0 where
  by : (s : State) (m n : ℕ) (ins : List Value) (r q : List Reply) (t u : Trace) → m ≤ n → IsPrefix r q → f s m ins r ≡ Some t → g s n ins q ≡ Some u → IsPrefix t.acts u.acts

nothing : (acts : List Act) → IsPrefix [] acts
nothing acts = (acts, refl)

same : (acts : List Act) → IsPrefix acts acts
same acts = ([], sym (append-nil acts))

no_trace : {P : Type 0} (t : Trace) → None ≡ Some t → P
no_trace t e = cc

some_of : (t u : Trace) → Some t ≡ Some u → t ≡ u
some_of t u e = cc

more_acts : (a : Act) (x y : Option Trace) (t u : Trace) → ((t1 u1 : Trace) → x ≡ Some t1 → y ≡ Some u1 → IsPrefix t1.acts u1.acts) → after_some a x ≡ Some t → after_some a y ≡ Some u → IsPrefix t.acts u.acts
more_acts a None y t u h e f = no_trace t e
more_acts a (Some t1) None t u h e f = no_trace u f
more_acts a (Some t1) (Some u1) t u h e f =
    let b = h t1 u1 refl refl in
    (b.0, ap (λ x. x.acts) (sym (some_of _ u f)) ∙ ap (λ l. a ∷ l) b.1 ∙ ap (λ x. x.acts ++ b.0) (some_of _ t e))

first_act : (a : Act) (e1 : RunState) (y : Option Trace) (t u : Trace) → Some (after_act a (only e1)) ≡ Some t → after_some a y ≡ Some u → IsPrefix t.acts u.acts
first_act a e1 None t u e f = no_trace u f
first_act a e1 (Some u1) t u e f =
    (u1.acts, ap (λ x. x.acts) (sym (some_of _ u f)) ∙ ap (λ x. x.acts ++ u1.acts) (some_of _ t e))

of_same : (x t u : Trace) → Some x ≡ Some t → Some x ≡ Some u → IsPrefix t.acts u.acts
of_same x t u e f = subst (λ v. IsPrefix t.acts v.acts) (some_of x u f) (subst (λ v. IsPrefix v.acts x.acts) (some_of x t e) (same x.acts))

of_none : (e1 : RunState) (t u : Trace) → Some (only e1) ≡ Some t → IsPrefix t.acts u.acts
of_none e1 t u e = subst (λ v. IsPrefix v.acts u.acts) (some_of _ t e) (nothing u.acts)

reply_below : (f g : Continuation) → Below f g → (x : After) (m n : ℕ) (ins : List Value) (r q : List Reply) (t u : Trace) → m ≤ n → IsPrefix r q → after_reply x f m ins r ≡ Some t → after_reply x g n ins q ≡ Some u → IsPrefix t.acts u.acts
reply_below f g h (On s) m n ins r q t u le b e1 e2 = h.by s m n ins r q t u le b e1 e2
reply_below f g h (Over e) m n ins r q t u le b e1 e2 = of_same _ t u e1 e2

input_below : (f g : Continuation) → Below f g → (x : Result Value RunFault) (line : ℕ) (s : Value → State) (m n : ℕ) (ins : List Value) (r q : List Reply) (t u : Trace) → m ≤ n → IsPrefix r q → after_input x line s f m ins r ≡ Some t → after_input x line s g n ins q ≡ Some u → IsPrefix t.acts u.acts
input_below f g h (Ok v) line s m n ins r q t u le b e1 e2 = h.by (s v) m n ins r q t u le b e1 e2
input_below f g h (Err e) line s m n ins r q t u le b e1 e2 = of_same _ t u e1 e2

meet_below : (f g : Continuation) → Below f g → (v : Event) (m n : ℕ) (ins : List Value) (r q : List Reply) (t u : Trace) → m ≤ n → IsPrefix r q → meet v f m ins r ≡ Some t → meet v g n ins q ≡ Some u → IsPrefix t.acts u.acts
meet_below f g h (Go s) m n ins r q t u le b e1 e2 = h.by s m n ins r q t u le b e1 e2
meet_below f g h (Tick s) zero n ins r q t u le b e1 e2 = of_none _ t u e1
meet_below f g h (Tick s) (suc m) zero ins r q t u le b e1 e2 = absurd (omega arith)
meet_below f g h (Tick s) (suc m) (suc n) ins r q t u le b e1 e2 = h.by s m n ins r q t u (omega arith) b e1 e2
meet_below f g h (Does a s) m n ins r q t u le b e1 e2 = more_acts a (f s m ins r) (g s n ins q) t u (λ t1 u1. h.by s m n ins r q t1 u1 le b) e1 e2
meet_below f g h (Asks c k) m n ins [] [] t u le b e1 e2 = of_same _ t u e1 e2
meet_below f g h (Asks c k) m n ins [] (y ∷ q) t u le b e1 e2 = first_act (Sent c) _ _ t u e1 e2
meet_below f g h (Asks c k) m n ins (x ∷ r) [] t u le b e1 e2 = absurd (let z = b.1 in cc)
meet_below f g h (Asks c k) m n ins (x ∷ r) (y ∷ q) t u le b e1 e2 =
    let i : y ≡ x = let z = b.1 in cc in
    let w : q ≡ r ++ b.0 = let z = b.1 in cc in
    more_acts (Sent c) (after_reply (k x) f m ins r) (after_reply (k y) g n ins q) t u
    (λ t1 u1 d1 d2. reply_below f g h (k x) m n ins r q t1 u1 le (b.0, w) d1 (ap (λ z. after_reply (k z) g n ins q) (sym i) ∙ d2)) e1 e2
meet_below f g h (Takes kind line s) m n [] r q t u le b e1 e2 = of_same _ t u e1 e2
meet_below f g h (Takes kind line s) m n (v ∷ ins) r q t u le b e1 e2 = input_below f g h (input_as kind v) line s m n ins r q t u le b e1 e2
meet_below f g h (Halt e) m n ins r q t u le b e1 e2 = of_same _ t u e1 e2

exec_below : (allowed : Allowed) (units : List CodeUnit) (i j : ℕ) → Below (exec allowed units i) (exec allowed units j)
exec_below allowed units zero j = record { by = λ s m n ins r q t u le b e1 e2. no_trace t e1 }
exec_below allowed units (suc i) zero = record { by = λ s m n ins r q t u le b e1 e2. no_trace u e2 }
exec_below allowed units (suc i) (suc j) =
    record { by = λ s m n ins r q t u le b e1 e2. meet_below (exec allowed units i) (exec allowed units j) (exec_below allowed units i j) (step allowed units s) m n ins r q t u le b e1 e2 }

pub only_grows : OnlyGrows
only_grows allowed units entry ins r q m n t u le b x y =
    (exec_below allowed units x.instructions y.instructions).by (start entry) m n ins r q t u le b x.ends y.ends

-- two runs from one state that are over have one trace
record Equal (f g : Continuation) : Type 0 where
  by : (s : State) (n : ℕ) (ins : List Value) (r : List Reply) (t u : Trace) → f s n ins r ≡ Some t → g s n ins r ≡ Some u → t ≡ u

same_some : (x t u : Trace) → Some x ≡ Some t → Some x ≡ Some u → t ≡ u
same_some x t u e f = cc

acts_equal : (a : Act) (x y : Option Trace) (t u : Trace) → ((t1 u1 : Trace) → x ≡ Some t1 → y ≡ Some u1 → t1 ≡ u1) → after_some a x ≡ Some t → after_some a y ≡ Some u → t ≡ u
acts_equal a None y t u h e f = no_trace t e
acts_equal a (Some t1) None t u h e f = no_trace u f
acts_equal a (Some t1) (Some u1) t u h e f = sym (some_of _ t e) ∙ ap (after_act a) (h t1 u1 refl refl) ∙ some_of _ u f

reply_equal : (f g : Continuation) → Equal f g → (x : After) (n : ℕ) (ins : List Value) (r : List Reply) (t u : Trace) → after_reply x f n ins r ≡ Some t → after_reply x g n ins r ≡ Some u → t ≡ u
reply_equal f g h (On s) n ins r t u e1 e2 = h.by s n ins r t u e1 e2
reply_equal f g h (Over e) n ins r t u e1 e2 = same_some _ t u e1 e2

input_equal : (f g : Continuation) → Equal f g → (x : Result Value RunFault) (line : ℕ) (s : Value → State) (n : ℕ) (ins : List Value) (r : List Reply) (t u : Trace) → after_input x line s f n ins r ≡ Some t → after_input x line s g n ins r ≡ Some u → t ≡ u
input_equal f g h (Ok v) line s n ins r t u e1 e2 = h.by (s v) n ins r t u e1 e2
input_equal f g h (Err e) line s n ins r t u e1 e2 = same_some _ t u e1 e2

meet_equal : (f g : Continuation) → Equal f g → (v : Event) (n : ℕ) (ins : List Value) (r : List Reply) (t u : Trace) → meet v f n ins r ≡ Some t → meet v g n ins r ≡ Some u → t ≡ u
meet_equal f g h (Go s) n ins r t u e1 e2 = h.by s n ins r t u e1 e2
meet_equal f g h (Tick s) zero ins r t u e1 e2 = same_some _ t u e1 e2
meet_equal f g h (Tick s) (suc n) ins r t u e1 e2 = h.by s n ins r t u e1 e2
meet_equal f g h (Does a s) n ins r t u e1 e2 = acts_equal a (f s n ins r) (g s n ins r) t u (λ t1 u1. h.by s n ins r t1 u1) e1 e2
meet_equal f g h (Asks c k) n ins [] t u e1 e2 = same_some _ t u e1 e2
meet_equal f g h (Asks c k) n ins (x ∷ r) t u e1 e2 = acts_equal (Sent c) _ _ t u (λ t1 u1. reply_equal f g h (k x) n ins r t1 u1) e1 e2
meet_equal f g h (Takes kind line s) n [] r t u e1 e2 = same_some _ t u e1 e2
meet_equal f g h (Takes kind line s) n (v ∷ ins) r t u e1 e2 = input_equal f g h (input_as kind v) line s n ins r t u e1 e2
meet_equal f g h (Halt e) n ins r t u e1 e2 = same_some _ t u e1 e2

exec_equal : (allowed : Allowed) (units : List CodeUnit) (i j : ℕ) → Equal (exec allowed units i) (exec allowed units j)
exec_equal allowed units zero j = record { by = λ s n ins r t u e1 e2. no_trace t e1 }
exec_equal allowed units (suc i) zero = record { by = λ s n ins r t u e1 e2. no_trace u e2 }
exec_equal allowed units (suc i) (suc j) =
    record { by = λ s n ins r t u e1 e2. meet_equal (exec allowed units i) (exec allowed units j) (exec_equal allowed units i j) (step allowed units s) n ins r t u e1 e2 }

pub one_trace : HasOneTrace
one_trace allowed units entry ins r n t u x y = (exec_equal allowed units x.instructions y.instructions).by (start entry) n ins r t u x.ends y.ends
