-- A run within some steps is the same for each counter of loops and calls that is at least these steps: what goes on agrees up to
-- a number of steps, each definition keeps that, and each turn of a loop and each call takes a step before it is begun.
use Rattle.std.proofs.Common.{◌≡◌, ℕ, zero, suc, ◌+◌, ◌≤◌, Bool, true, false, List, [], ◌∷◌, Option, Some, None, Result, Ok, Err, refl, ap, arith}
use Rattle.std.specs.Prelude.{ℤ, pos, ◌+ℤ◌, nat_lt, cond}
use Rattle.std.specs.Ordering.{int_eq}
use Rattle.kumir_tree.specs.declared.kind.Kind.{Kind}
use Rattle.kumir_tree.specs.declared.kind.Mode.{Mode}
use Rattle.kumir_tree.specs.declared.kind.Mode.TheVariants.{Arg, Res, ArgRes}
use Rattle.kumir_tree.specs.Tree.{Tree, Number, Truth as TruthOf, Answer, Named, Element, Call, Plus, Minus, Not, Binary, Trees, no_trees, ◌then◌}
use Rattle.kumir_tree.specs.Part.{Limits, Place, ToAnswer, ToScalar, ToElement, Shown, ShowValue, ShowText, ShowLine, Declares, Scalars, Tables, Formal}
use Rattle.kumir_tree.specs.Program as tree
use Rattle.kumir_tree.specs.Program.{Stmt, Stands, Declare, Assign, Invoke, Times, While, Count, Forever, Until, Choose, Select, Assert, Input, Output, Leave, Quit, Block, done, ◌next◌, Arms, no_arms, arm}
use Rattle.performer_kit.specs.declared.commands.Command.{Command}
use Rattle.performer_kit.specs.declared.commands.Command.TheVariants.{Robot}
use Rattle.performer_kit.specs.declared.commands.Reply.{Reply}
use Rattle.kumir_values.specs.declared.value.Value.{Value}
use Rattle.kumir_values.specs.declared.value.Value.TheVariants.{Whole, Truth}
use Rattle.kumir_values.specs.declared.bounds.Bound.{Bound}
use Rattle.kumir_values.specs.declared.run_end.RunFault.{RunFault}
use Rattle.kumir_names.specs.declared.built_in.BuiltIn.{BuiltIn}
use Rattle.kumir_names.specs.declared.variable.Variable.{Variable}
use Rattle.kumir_names.specs.Variables.{variable}
use Rattle.kumir_names.specs.Callees.{Callee, Called, BuiltInCall, RobotCall, PenCall}
use Rattle.kumir_meaning.specs.Program.{Placed, Program, callee_in, stmt_names, block_names}
use Rattle.kumir_meaning.specs.Operators.{number_of, is_yes, turns_of, combined, decided, negated, applied}
use Rattle.kumir_meaning.specs.Store.{TheAnswer, Local, Has, Store, with_cell, read, element, Spot, AtVariable, AtElement, settled, read_at, put, made, fitted}
use Rattle.kumir_meaning.specs.Runs as state
use Rattle.kumir_meaning.specs.Runs.{Act, Trace, Rest, Allowed, after_act, stops, unless_fault, tick, does, asks, takes, input_as, choose, reply_value, is_wall}
use Rattle.kumir_meaning.specs.Expressions.{Then, ThenValue, ThenValues, Passed, ByValue, ByPlace, ByTable, Enter, Here, on_line, behind, steps_in, calls, named, unless_decided, passes, name_of, numbers_of, eval, values, args, fixes, bounds}
use Rattle.kumir_meaning.specs.Loops.{Body, turns, while_yes, past, counts, forever, until}
use Rattle.kumir_meaning.specs.Statements.{aims, stores, claims, cleared, makes, establishes, invokes, takes_for, kind_at, inputs, outputs, stride, carries_out, runs, selects}
use Rattle.kumir_meaning.specs.Algorithms.{some_claim, fits, gives, returns, proceeds, at_header, receives, receives_all, copied_out, fresh, enters, starts, run_within}

-- ---- what agrees up to n steps

abbrev Agree : ℕ → Rest → Rest → Type 0
Agree n a b = (k : ℕ) → k ≤ n → (inputs : List Value) (replies : List Reply) → a k inputs replies ≡ b k inputs replies

abbrev AgreeThen : ℕ → Then → Then → Type 0
AgreeThen n k l = (s : Store) → Agree n (k s) (l s)

abbrev AgreeOn : {X : Type 0} → ℕ → (X → Then) → (X → Then) → Type 0
AgreeOn {X} n k l = (x : X) → AgreeThen n (k x) (l x)

-- what is handed what goes on: within m steps, for each m up to n
abbrev Keeps : {X : Type 0} → ℕ → ((X → Then) → Then) → ((X → Then) → Then) → Type 0
Keeps {X} n f g = (m : ℕ) → m ≤ n → (k l : X → Then) → AgreeOn m k l → AgreeThen m (f k) (g l)

abbrev KeepsBody : ℕ → Body → Body → Type 0
KeepsBody n f g = (m : ℕ) → m ≤ n → (out1 out2 k l : Then) → AgreeThen m out1 out2 → AgreeThen m k l → AgreeThen m (f out1 k) (g out2 l)

-- entering agrees up to fewer than n steps, since a step is taken before it
abbrev AgreeEnter : ℕ → Enter → Enter → Type 0
AgreeEnter n e f = (m : ℕ) → suc m ≤ n → (line : ℕ) (a : Placed) (passed : List Passed) (s : Store) (k l : ThenValue) → AgreeOn m k l → Agree m (e line a passed s k) (f line a passed s l)

less : (n m : ℕ) → m ≤ n → (a b : Rest) → Agree n a b → Agree m a b
less n m le a b h k below = h k (omega arith)

less_enter : (n m : ℕ) → m ≤ n → (e f : Enter) → AgreeEnter n e f → AgreeEnter m e f
less_enter n m le e f h j below = h j (omega arith)

same : (n : ℕ) (a : Rest) → Agree n a a
same n a k le inputs replies = refl

on_result : {T : Type 0} (n : ℕ) (r : Result T RunFault) (line : ℕ) (a b : T → Rest) → ((t : T) → Agree n (a t) (b t)) → Agree n (unless_fault r line a) (unless_fault r line b)
on_result n (Ok t) line a b h = h t
on_result n (Err fault) line a b h = same n (stops (state.Fault line fault))

on_choice : (n : ℕ) (c : Bool) (a b x y : Then) → AgreeThen n a x → AgreeThen n b y → AgreeThen n (choose c a b) (choose c x y)
on_choice n true a b x y f g s = f s
on_choice n false a b x y f g s = g s

-- after a step there is one less
on_tick : (n : ℕ) (a b : Then) → ((m : ℕ) → suc m ≤ n → AgreeThen m a b) → AgreeThen n (tick a) (tick b)
on_tick n a b h s zero le inputs replies = refl
on_tick n a b h s (suc k) le inputs replies = h k le s k (omega arith) inputs replies

on_act : (n : ℕ) (act : Act) (a b : Then) → AgreeThen n a b → AgreeThen n (does act a) (does act b)
on_act n act a b h s k le inputs replies = ap (after_act act) (h s k le inputs replies)

on_reply : (n : ℕ) (command : Command) (a b : Reply → Then) → AgreeOn n a b → AgreeThen n (asks command a) (asks command b)
on_reply n command a b h s k le inputs [] = refl
on_reply n command a b h s k le inputs (r ∷ replies) = ap (after_act (state.Sent command)) (h r s k le inputs replies)

on_input : (n : ℕ) (kind : Kind) (line : ℕ) (a b : ThenValue) → AgreeOn n a b → AgreeThen n (takes kind line a) (takes kind line b)
on_input n kind line a b h s k le [] replies = refl
on_input n kind line a b h s k le (v ∷ inputs) replies = on_result n (input_as kind v) line (λ w. a w s) (λ w. b w s) (λ w. h w s) k le inputs replies

-- a place with another way to enter
abbrev at : Enter → Here → Here
at e h = record h { enter = e }

module _ (e f : Enter) where
  -- ---- expressions

  enters_in : (n : ℕ) (a : Placed) (passed : List Passed) (h : Here) (k l : ThenValue) → AgreeEnter n e f → AgreeOn n k l → AgreeThen n (steps_in a passed (at e h) k) (steps_in a passed (at f h) l)
  enters_in n a passed h k l ok go =
      on_tick n (λ s. e h.line a passed s k) (λ s. f h.line a passed s l) (λ m below s. ok m below h.line a passed s k l (λ v s1. less n m (omega arith) (k v s1) (l v s1) (go v s1)))

  calls_in : (n : ℕ) (c : Option (Callee Placed)) (al ar : Placed → Then) (bl br : BuiltIn → Then) (h : Here) (k l : ThenValue) → ((a : Placed) → AgreeThen n (al a) (ar a)) → ((b : BuiltIn) → AgreeThen n (bl b) (br b)) → AgreeOn n k l
      → AgreeThen n (calls c al bl (at e h) k) (calls c ar br (at f h) l)
  calls_in n (Some (Called a)) al ar bl br h k l ga gb go = ga a
  calls_in n (Some (BuiltInCall b)) al ar bl br h k l ga gb go = gb b
  calls_in n (Some (RobotCall c)) al ar bl br h k l ga gb go =
      on_tick n (λ s. asks (Robot c) (λ r. k (reply_value r)) s) (λ s. asks (Robot c) (λ r. l (reply_value r)) s)
      (λ m below. on_reply m (Robot c) (λ r. k (reply_value r)) (λ r. l (reply_value r)) (λ r s. less n m (omega arith) (k (reply_value r) s) (l (reply_value r) s) (go (reply_value r) s)))
  calls_in n (Some (PenCall c)) al ar bl br h k l ga gb go = λ s. same n _
  calls_in n None al ar bl br h k l ga gb go = λ s. same n _

  named_in : (n : ℕ) (o : Option Variable) (x : List ℕ) (h : Here) (k l : ThenValue) → AgreeEnter n e f → AgreeOn n k l → AgreeThen n (named o x (at e h) k) (named o x (at f h) l)
  named_in n (Some v) x h k l ok go = λ s. on_result n (read (s.cells (Local x))) h.line (λ w. k w s) (λ w. l w s) (λ w. go w s)
  named_in n None x h k l ok go =
      calls_in n (callee_in h.program x) (λ a. steps_in a [] (at e h) k) (λ a. steps_in a [] (at f h) l) (λ b s. stops (state.Fault h.line _)) (λ b s. stops (state.Fault h.line _)) h k l
      (λ a. enters_in n a [] h k l ok go) (λ b s. same n _) go

  decided_in : (n : ℕ) (o : Option Value) (k l : ThenValue) (a b : Then) → AgreeOn n k l → AgreeThen n a b → AgreeThen n (unless_decided o k a) (unless_decided o l b)
  decided_in n (Some v) k l a b go h = go v
  decided_in n None k l a b go h = h

  passes_in : (n : ℕ) (o : Option Limits) (mode : Mode) (x : List ℕ) (vl vr : ThenValue → Then) (pl pr : (Spot → Then) → Then) (h : Here) (k l : Passed → Then) → Keeps n vl vr → Keeps n pl pr → AgreeOn n k l
      → AgreeThen n (passes o mode x vl pl (at e h) k) (passes o mode x vr pr (at f h) l)
  passes_in n (Some limits) mode x vl vr pl pr h k l hv hp go = go (ByTable x)
  passes_in n None Arg x vl vr pl pr h k l hv hp go = hv n (omega arith) (λ v. k (ByValue v)) (λ v. l (ByValue v)) (λ v. go (ByValue v))
  passes_in n None Res x vl vr pl pr h k l hv hp go = hp n (omega arith) (λ spot. k (ByPlace spot None)) (λ spot. l (ByPlace spot None)) (λ spot. go (ByPlace spot None))
  passes_in n None ArgRes x vl vr pl pr h k l hv hp go =
      hp n (omega arith) _ _ (λ spot s1. on_result n (read_at spot s1) h.line (λ v. k (ByPlace spot (Some v)) s1) (λ v. l (ByPlace spot (Some v)) s1) (λ v. go (ByPlace spot (Some v)) s1))

  mutual
    eval_in : (t : Tree) (n : ℕ) (h : Here) (k l : ThenValue) → AgreeEnter n e f → AgreeOn n k l → AgreeThen n (eval t (at e h) k) (eval t (at f h) l)
    eval_in (Number z) n h k l ok go = go (Whole z)
    eval_in (TruthOf b) n h k l ok go = go (Truth b)
    eval_in Answer n h k l ok go = λ s. on_result n (read (s.cells TheAnswer)) h.line (λ v. k v s) (λ v. l v s) (λ v. go v s)
    eval_in (Named x) n h k l ok go = named_in n (variable h.locals x) x h k l ok go
    eval_in (Element x es) n h k l ok go =
        values_in es n h _ _ ok (λ is s1. on_result n (element (s1.cells (Local x)) (numbers_of is)) h.line (λ v. k v s1) (λ v. l v s1) (λ v. go v s1))
    eval_in (Call g es) n h k l ok go =
        calls_in n (callee_in h.program g)
        (λ a. args es a.algorithm.head.params (at e h) (λ passed. steps_in a passed (at e h) k)) (λ a. args es a.algorithm.head.params (at f h) (λ passed. steps_in a passed (at f h) l))
        (λ b. values es (at e h) (λ vs s1. unless_fault (applied b vs) h.line (λ v. k v s1))) (λ b. values es (at f h) (λ vs s1. unless_fault (applied b vs) h.line (λ v. l v s1)))
        h k l
        (λ a. args_in es a.algorithm.head.params n h _ _ ok (λ passed. enters_in n a passed h k l ok go))
        (λ b. values_in es n h _ _ ok (λ vs s1. on_result n (applied b vs) h.line (λ v. k v s1) (λ v. l v s1) (λ v. go v s1)))
        go
    eval_in (Plus a) n h k l ok go = eval_in a n h k l ok go
    eval_in (Minus a) n h k l ok go = eval_in a n h _ _ ok (λ v s1. on_result n (negated v) h.line (λ w. k w s1) (λ w. l w s1) (λ w. go w s1))
    eval_in (Not a) n h k l ok go = eval_in a n h _ _ ok (λ v. go (Truth (cond (is_yes v) false true)))
    eval_in (Binary o a b) n h k l ok go =
        eval_in a n h _ _ ok (λ v. decided_in n (decided o v) k l _ _ go (eval_in b n h _ _ ok (λ w s2. on_result n (combined o v w) h.line (λ x. k x s2) (λ x. l x s2) (λ x. go x s2))))

    values_in : (es : Trees) (n : ℕ) (h : Here) (k l : ThenValues) → AgreeEnter n e f → AgreeOn n k l → AgreeThen n (values es (at e h) k) (values es (at f h) l)
    values_in no_trees n h k l ok go = go []
    values_in (t then es) n h k l ok go = eval_in t n h _ _ ok (λ v. values_in es n h _ _ ok (λ vs. go (v ∷ vs)))

    args_in : (es : Trees) (params : List Formal) (n : ℕ) (h : Here) (k l : List Passed → Then) → AgreeEnter n e f → AgreeOn n k l → AgreeThen n (args es params (at e h) k) (args es params (at f h) l)
    args_in no_trees params n h k l ok go = go []
    args_in (t then es) [] n h k l ok go = go []
    args_in (t then es) (p ∷ params) n h k l ok go =
        passes_in n p.bounds p.mode (name_of t) (λ k1. eval t (at e h) k1) (λ k1. eval t (at f h) k1) (λ k1. fixes t (at e h) k1) (λ k1. fixes t (at f h) k1) h _ _
        (λ m le k1 l1 go1. eval_in t m h k1 l1 (less_enter n m le e f ok) go1) (λ m le k1 l1 go1. fixes_in t m h k1 l1 (less_enter n m le e f ok) go1)
        (λ a. args_in es params n h _ _ ok (λ more. go (a ∷ more)))

    fixes_in : (t : Tree) (n : ℕ) (h : Here) (k l : Spot → Then) → AgreeEnter n e f → AgreeOn n k l → AgreeThen n (fixes t (at e h) k) (fixes t (at f h) l)
    fixes_in (Named x) n h k l ok go = go (AtVariable (Local x))
    fixes_in (Element x es) n h k l ok go =
        values_in es n h _ _ ok (λ is s1. on_result n (settled (AtElement x (numbers_of is)) s1) h.line (λ spot. k spot s1) (λ spot. l spot s1) (λ spot. go spot s1))
    fixes_in (Number z) n h k l ok go = λ s. same n _
    fixes_in (TruthOf b) n h k l ok go = λ s. same n _
    fixes_in Answer n h k l ok go = λ s. same n _
    fixes_in (Call g es) n h k l ok go = λ s. same n _
    fixes_in (Plus a) n h k l ok go = λ s. same n _
    fixes_in (Minus a) n h k l ok go = λ s. same n _
    fixes_in (Not a) n h k l ok go = λ s. same n _
    fixes_in (Binary o a b) n h k l ok go = λ s. same n _

  bounds_in : (limits : Limits) (n : ℕ) (h : Here) (k l : List Bound → Then) → AgreeEnter n e f → AgreeOn n k l → AgreeThen n (bounds limits (at e h) k) (bounds limits (at f h) l)
  bounds_in [] n h k l ok go = go []
  bounds_in (limit ∷ limits) n h k l ok go =
      eval_in limit.0 n h _ _ ok (λ low. eval_in limit.1 n h _ _ ok (λ high. bounds_in limits n h _ _ ok (λ bs. go (record { low = number_of low; high = number_of high } ∷ bs))))

  -- ---- statements

  aims_in : (x : Place) (n : ℕ) (h : Here) (k l : Spot → Then) → AgreeEnter n e f → AgreeOn n k l → AgreeThen n (aims x (at e h) k) (aims x (at f h) l)
  aims_in ToAnswer n h k l ok go = go (AtVariable TheAnswer)
  aims_in (ToScalar x) n h k l ok go = go (AtVariable (Local x))
  aims_in (ToElement x es) n h k l ok go = values_in es n h _ _ ok (λ is. go (AtElement x (numbers_of is)))

  stores_in : (spot : Spot) (v : Value) (n : ℕ) (h : Here) (k l : Then) → AgreeThen n k l → AgreeThen n (stores spot v (at e h) k) (stores spot v (at f h) l)
  stores_in spot v n h k l go s = on_result n (settled spot s) h.line (λ there. k (put there (Some v) s)) (λ there. l (put there (Some v) s)) (λ there. go (put there (Some v) s))

  claims_in : (t : Tree) (n : ℕ) (h : Here) (k l : Then) → AgreeEnter n e f → AgreeThen n k l → AgreeThen n (claims t (at e h) k) (claims t (at f h) l)
  claims_in t n h k l ok go = eval_in t n h _ _ ok (λ v. on_choice n (is_yes v) k (λ s1. stops (state.Assert h.line)) l (λ s1. stops (state.Assert h.line)) go (λ s1. same n _))

  makes_in : (kind : Kind) (xs : List (List ℕ × Limits)) (n : ℕ) (h : Here) (k l : Then) → AgreeEnter n e f → AgreeThen n k l → AgreeThen n (makes kind xs (at e h) k) (makes kind xs (at f h) l)
  makes_in kind [] n h k l ok go = go
  makes_in kind (x ∷ xs) n h k l ok go =
      bounds_in x.1 n h _ _ ok (λ bs s1. on_result n (made h.room kind bs (Local x.0) s1) h.line (λ s2. makes kind xs (at e h) k s2) (λ s2. makes kind xs (at f h) l s2) (λ s2. makes_in kind xs n h k l ok go s2))

  establishes_in : (d : Declares) (n : ℕ) (h : Here) (k l : Then) → AgreeEnter n e f → AgreeThen n k l → AgreeThen n (establishes d (at e h) k) (establishes d (at f h) l)
  establishes_in (Scalars kind names) n h k l ok go = λ s. go (cleared names s)
  establishes_in (Tables kind tables) n h k l ok go = makes_in kind tables n h k l ok go

  invokes_in : (c : Option (Callee Placed)) (es : Trees) (n : ℕ) (h : Here) (k l : Then) → AgreeEnter n e f → AgreeThen n k l → AgreeThen n (invokes c es (at e h) k) (invokes c es (at f h) l)
  invokes_in (Some (Called a)) es n h k l ok go = args_in es a.algorithm.head.params n h _ _ ok (λ passed. enters_in n a passed h (λ v. k) (λ v. l) ok (λ v. go))
  invokes_in (Some (RobotCall c)) es n h k l ok go =
      on_tick n _ _ (λ m below. on_reply m (Robot c) _ _ (λ r. on_choice m (is_wall r) (λ s2. stops (state.Wall h.line)) k (λ s2. stops (state.Wall h.line)) l (λ s2. same m _) (λ s. less n m (omega arith) (k s) (l s) (go s))))
  invokes_in (Some (PenCall c)) es n h k l ok go =
      values_in es n h _ _ ok (λ vs. on_tick n _ _ (λ m below. on_act m _ k l (λ s. less n m (omega arith) (k s) (l s) (go s))))
  invokes_in (Some (BuiltInCall b)) es n h k l ok go = λ s. same n _
  invokes_in None es n h k l ok go = λ s. same n _

  takes_in : (o : Option Kind) (spot : Spot) (n : ℕ) (h : Here) (k l : Then) → AgreeThen n k l → AgreeThen n (takes_for o spot (at e h) k) (takes_for o spot (at f h) l)
  takes_in (Some kind) spot n h k l go = on_input n kind h.line _ _ (λ v. stores_in spot v n h k l go)
  takes_in None spot n h k l go = λ s. same n _

  inputs_in : (xs : List Place) (n : ℕ) (h : Here) (k l : Then) → AgreeEnter n e f → AgreeThen n k l → AgreeThen n (inputs xs (at e h) k) (inputs xs (at f h) l)
  inputs_in [] n h k l ok go = go
  inputs_in (x ∷ xs) n h k l ok go = aims_in x n h _ _ ok (λ spot. takes_in (kind_at spot h.locals) spot n h _ _ (λ s1. inputs_in xs n h k l ok go s1))

  outputs_in : (xs : List Shown) (n : ℕ) (h : Here) (k l : Then) → AgreeEnter n e f → AgreeThen n k l → AgreeThen n (outputs xs (at e h) k) (outputs xs (at f h) l)
  outputs_in [] n h k l ok go = go
  outputs_in (ShowValue t ∷ xs) n h k l ok go = eval_in t n h _ _ ok (λ v. on_act n _ _ _ (λ s1. outputs_in xs n h k l ok go s1))
  outputs_in (ShowText text ∷ xs) n h k l ok go = on_act n _ _ _ (λ s1. outputs_in xs n h k l ok go s1)
  outputs_in (ShowLine ∷ xs) n h k l ok go = on_act n _ _ _ (λ s1. outputs_in xs n h k l ok go s1)

-- ---- loops, where each turn takes a step before it is begun

keeps_less : {X : Type 0} (n m : ℕ) → m ≤ n → (a b : (X → Then) → Then) → Keeps n a b → Keeps m a b
keeps_less n m le a b h j below = h j (omega arith)

body_less : (n m : ℕ) → m ≤ n → (a b : Body) → KeepsBody n a b → KeepsBody m a b
body_less n m le a b h j below = h j (omega arith)

then_less : (n m : ℕ) → m ≤ n → (k l : Then) → AgreeThen n k l → AgreeThen m k l
then_less n m le k l h s = less n m le (k s) (l s) (h s)

-- with no step left a counter at its end gives what a step gives
at_end : (n : ℕ) → n ≤ 0 → (a : Then) → AgreeThen n (λ s. stops state.Going) (tick a)
at_end n le a s zero below inputs replies = refl
at_end n le a s (suc k) below inputs replies = absurd (omega arith)

end_at : (n : ℕ) → n ≤ 0 → (a : Then) → AgreeThen n (tick a) (λ s. stops state.Going)
end_at n le a s zero below inputs replies = refl
end_at n le a s (suc k) below inputs replies = absurd (omega arith)

while_in : (c d n : ℕ) (t1 t2 : ThenValue → Then) (b1 b2 : Body) (k l : Then) → n ≤ c → n ≤ d → Keeps n t1 t2 → KeepsBody n b1 b2 → AgreeThen n k l → AgreeThen n (while_yes c t1 b1 k) (while_yes d t2 b2 l)
while_in zero zero n t1 t2 b1 b2 k l lc ld ht hb go = λ s. same n _
while_in zero (suc d) n t1 t2 b1 b2 k l lc ld ht hb go = at_end n lc _
while_in (suc c) zero n t1 t2 b1 b2 k l lc ld ht hb go = end_at n ld _
while_in (suc c) (suc d) n t1 t2 b1 b2 k l lc ld ht hb go =
    on_tick n _ _ (λ m below. let le : m ≤ n = omega arith in
    ht m le _ _ (λ v. on_choice m (is_yes v) _ _ _ _
    (hb m le k l _ _ (then_less n m le k l go) (while_in c d m t1 t2 b1 b2 k l (omega arith) (omega arith) (keeps_less n m le t1 t2 ht) (body_less n m le b1 b2 hb) (then_less n m le k l go)))
    (then_less n m le k l go)))

turns_in : (c d n left : ℕ) (b1 b2 : Body) (k l : Then) → n ≤ c → n ≤ d → KeepsBody n b1 b2 → AgreeThen n k l → AgreeThen n (turns c left b1 k) (turns d left b2 l)
turns_in zero zero n left b1 b2 k l lc ld hb go = λ s. same n _
turns_in zero (suc d) n zero b1 b2 k l lc ld hb go = at_end n lc _
turns_in zero (suc d) n (suc left) b1 b2 k l lc ld hb go = at_end n lc _
turns_in (suc c) zero n zero b1 b2 k l lc ld hb go = end_at n ld _
turns_in (suc c) zero n (suc left) b1 b2 k l lc ld hb go = end_at n ld _
turns_in (suc c) (suc d) n zero b1 b2 k l lc ld hb go = on_tick n k l (λ m below. then_less n m (omega arith) k l go)
turns_in (suc c) (suc d) n (suc left) b1 b2 k l lc ld hb go =
    on_tick n _ _ (λ m below. let le : m ≤ n = omega arith in
    hb m le k l _ _ (then_less n m le k l go) (turns_in c d m left b1 b2 k l (omega arith) (omega arith) (body_less n m le b1 b2 hb) (then_less n m le k l go)))

counts_in : (c d n : ℕ) (z last step : ℤ) (x : List ℕ) (b1 b2 : Body) (k l : Then) → n ≤ c → n ≤ d → KeepsBody n b1 b2 → AgreeThen n k l → AgreeThen n (counts c z last step x b1 k) (counts d z last step x b2 l)
counts_in zero zero n z last step x b1 b2 k l lc ld hb go = λ s. same n _
counts_in zero (suc d) n z last step x b1 b2 k l lc ld hb go = at_end n lc _
counts_in (suc c) zero n z last step x b1 b2 k l lc ld hb go = end_at n ld _
counts_in (suc c) (suc d) n z last step x b1 b2 k l lc ld hb go =
    on_tick n _ _ (λ m below. let le : m ≤ n = omega arith in
    on_choice m (past z last step) k _ l _ (then_less n m le k l go)
    (λ s1. hb m le k l _ _ (then_less n m le k l go) (counts_in c d m (z +ℤ step) last step x b1 b2 k l (omega arith) (omega arith) (body_less n m le b1 b2 hb) (then_less n m le k l go)) (with_cell s1 (Local x) (Has (Whole z)))))

forever_in : (c d n : ℕ) (b1 b2 : Body) (k l : Then) → n ≤ c → n ≤ d → KeepsBody n b1 b2 → AgreeThen n k l → AgreeThen n (forever c b1 k) (forever d b2 l)
forever_in zero zero n b1 b2 k l lc ld hb go = λ s. same n _
forever_in zero (suc d) n b1 b2 k l lc ld hb go = at_end n lc _
forever_in (suc c) zero n b1 b2 k l lc ld hb go = end_at n ld _
forever_in (suc c) (suc d) n b1 b2 k l lc ld hb go =
    on_tick n _ _ (λ m below. let le : m ≤ n = omega arith in
    hb m le k l _ _ (then_less n m le k l go) (forever_in c d m b1 b2 k l (omega arith) (omega arith) (body_less n m le b1 b2 hb) (then_less n m le k l go)))

until_in : (c d n : ℕ) (b1 b2 : Body) (t1 t2 : ThenValue → Then) (k l : Then) → n ≤ c → n ≤ d → KeepsBody n b1 b2 → Keeps n t1 t2 → AgreeThen n k l → AgreeThen n (until c b1 t1 k) (until d b2 t2 l)
until_in zero zero n b1 b2 t1 t2 k l lc ld hb ht go = λ s. same n _
until_in zero (suc d) n b1 b2 t1 t2 k l lc ld hb ht go = at_end n lc _
until_in (suc c) zero n b1 b2 t1 t2 k l lc ld hb ht go = end_at n ld _
until_in (suc c) (suc d) n b1 b2 t1 t2 k l lc ld hb ht go =
    on_tick n _ _ (λ m below. let le : m ≤ n = omega arith in
    hb m le k l _ _ (then_less n m le k l go)
    (on_tick m _ _ (λ j under. let lj : j ≤ n = omega arith in
    ht j lj _ _ (λ v. on_choice j (is_yes v) k _ l _ (then_less n j lj k l go)
    (until_in c d j b1 b2 t1 t2 k l (omega arith) (omega arith) (body_less n j lj b1 b2 hb) (keeps_less n j lj t1 t2 ht) (then_less n j lj k l go))))))

-- ---- blocks

module _ (e f : Enter) where
  stride_in : (o : Option Tree) (n : ℕ) (h : Here) (k l : ℤ → Then) → AgreeEnter n e f → AgreeOn n k l → AgreeThen n (stride o (at e h) k) (stride o (at f h) l)
  stride_in None n h k l ok go = go (pos 1)
  stride_in (Some t) n h k l ok go =
      eval_in e f t n h _ _ ok (λ v. on_choice n (int_eq (number_of v) (pos 0)) (λ s1. stops (state.Fault h.line _)) (k (number_of v)) (λ s1. stops (state.Fault h.line _)) (l (number_of v)) (λ s1. same n _) (go (number_of v)))

  evaluates : (t : Tree) (n : ℕ) (h : Here) → AgreeEnter n e f → Keeps n (λ k1. eval t (at e h) k1) (λ k1. eval t (at f h) k1)
  evaluates t n h ok m le k1 l1 go1 = eval_in e f t m h k1 l1 (less_enter n m le e f ok) go1

  mutual
    carries_in : (a : tree.Act) (c d n : ℕ) (h : Here) (out1 out2 k l : Then) → n ≤ c → n ≤ d → AgreeEnter n e f → AgreeThen n out1 out2 → AgreeThen n k l → AgreeThen n (carries_out a (at e h) c out1 k) (carries_out a (at f h) d out2 l)
    carries_in (Declare x) c d n h out1 out2 k l lc ld ok away go = establishes_in e f x n h k l ok go
    carries_in (Assign x t) c d n h out1 out2 k l lc ld ok away go = aims_in e f x n h _ _ ok (λ spot. eval_in e f t n h _ _ ok (λ v. stores_in e f spot v n h k l go))
    carries_in (Invoke x es) c d n h out1 out2 k l lc ld ok away go = invokes_in e f (callee_in h.program x) es n h k l ok go
    carries_in (Times t b) c d n h out1 out2 k l lc ld ok away go = eval_in e f t n h _ _ ok (λ v. turns_in c d n (turns_of v) _ _ k l lc ld (λ m le o1 o2 k1 l1 far near. runs_in b c d m h o1 o2 k1 l1 (omega arith) (omega arith) (less_enter n m le e f ok) far near) go)
    carries_in (While t b) c d n h out1 out2 k l lc ld ok away go = while_in c d n _ _ _ _ k l lc ld (evaluates t n h ok) (λ m le o1 o2 k1 l1 far near. runs_in b c d m h o1 o2 k1 l1 (omega arith) (omega arith) (less_enter n m le e f ok) far near) go
    carries_in (Count x from upto by b) c d n h out1 out2 k l lc ld ok away go =
        eval_in e f from n h _ _ ok (λ v. eval_in e f upto n h _ _ ok (λ w. stride_in by n h _ _ ok (λ z. counts_in c d n (number_of v) (number_of w) z x _ _ k l lc ld (λ m le o1 o2 k1 l1 far near. runs_in b c d m h o1 o2 k1 l1 (omega arith) (omega arith) (less_enter n m le e f ok) far near) go)))
    carries_in (Forever b) c d n h out1 out2 k l lc ld ok away go = forever_in c d n _ _ k l lc ld (λ m le o1 o2 k1 l1 far near. runs_in b c d m h o1 o2 k1 l1 (omega arith) (omega arith) (less_enter n m le e f ok) far near) go
    carries_in (Until b line t) c d n h out1 out2 k l lc ld ok away go =
        until_in c d n _ _ _ _ k l lc ld (λ m le o1 o2 k1 l1 far near. runs_in b c d m h o1 o2 k1 l1 (omega arith) (omega arith) (less_enter n m le e f ok) far near) (evaluates t n (on_line (behind h (block_names b)) line) ok) go
    carries_in (Choose t a b) c d n h out1 out2 k l lc ld ok away go =
        eval_in e f t n h _ _ ok (λ v. on_choice n (is_yes v) _ _ _ _ (runs_in a c d n h out1 out2 k l lc ld ok away go) (runs_in b c d n (behind h (block_names a)) out1 out2 k l lc ld ok away go))
    carries_in (Select arms b) c d n h out1 out2 k l lc ld ok away go =
        selects_in arms c d n h out1 out2 k l _ _ lc ld ok away go (λ h1. runs_in b c d n h1 out1 out2 k l lc ld ok away go)
    carries_in (Assert t) c d n h out1 out2 k l lc ld ok away go = claims_in e f t n h k l ok go
    carries_in (Input xs) c d n h out1 out2 k l lc ld ok away go = inputs_in e f xs n h k l ok go
    carries_in (Output xs) c d n h out1 out2 k l lc ld ok away go = outputs_in e f xs n h k l ok go
    carries_in Leave c d n h out1 out2 k l lc ld ok away go = away
    carries_in Quit c d n h out1 out2 k l lc ld ok away go = λ s. same n _

    runs_in : (b : Block) (c d n : ℕ) (h : Here) (out1 out2 k l : Then) → n ≤ c → n ≤ d → AgreeEnter n e f → AgreeThen n out1 out2 → AgreeThen n k l → AgreeThen n (runs b (at e h) c out1 k) (runs b (at f h) d out2 l)
    runs_in done c d n h out1 out2 k l lc ld ok away go = go
    runs_in (Stands line a next b) c d n h out1 out2 k l lc ld ok away go =
        on_tick n _ _ (λ m below. let le : m ≤ n = omega arith in
        carries_in a c d m (on_line h line) out1 out2 _ _ (omega arith) (omega arith) (less_enter n m le e f ok) (then_less n m le out1 out2 away)
        (runs_in b c d m (behind h (stmt_names (Stands line a))) out1 out2 k l (omega arith) (omega arith) (less_enter n m le e f ok) (then_less n m le out1 out2 away) (then_less n m le k l go)))

    selects_in : (arms : Arms) (c d n : ℕ) (h : Here) (out1 out2 k l : Then) (w1 w2 : Here → Then) → n ≤ c → n ≤ d → AgreeEnter n e f → AgreeThen n out1 out2 → AgreeThen n k l → ((h1 : Here) → AgreeThen n (w1 (at e h1)) (w2 (at f h1)))
        → AgreeThen n (selects arms (at e h) c out1 k w1) (selects arms (at f h) d out2 l w2)
    selects_in no_arms c d n h out1 out2 k l w1 w2 lc ld ok away go last = last h
    selects_in (arm line t b more) c d n h out1 out2 k l w1 w2 lc ld ok away go last =
        eval_in e f t n (on_line h line) _ _ ok
        (λ v. on_choice n (is_yes v) _ _ _ _ (runs_in b c d n h out1 out2 k l lc ld ok away go) (selects_in more c d n (behind h (block_names b)) out1 out2 k l w1 w2 lc ld ok away go last))

  -- ---- algorithms

  claim_in : (o : Option (ℕ × Tree)) (n : ℕ) (h : Here) (k l : Then) → AgreeEnter n e f → AgreeThen n k l → AgreeThen n (some_claim o (at e h) k) (some_claim o (at f h) l)
  claim_in None n h k l ok go = go
  claim_in (Some c) n h k l ok go = claims_in e f c.1 n (on_line h c.0) k l ok go

  one_fits : (mode : Mode) (kind : Kind) (name : List ℕ) (o : Option Limits) (params : List Formal) (n : ℕ) (h : Here) (k l : Then) → AgreeEnter n e f → AgreeThen n (fits params (at e h) k) (fits params (at f h) l)
      → AgreeThen n (fits (record { mode = mode; kind = kind; name = name; bounds = o } ∷ params) (at e h) k) (fits (record { mode = mode; kind = kind; name = name; bounds = o } ∷ params) (at f h) l)
  one_fits mode kind name None params n h k l ok go = go
  one_fits mode kind name (Some limits) params n h k l ok go =
      bounds_in e f limits n h _ _ ok (λ bs s1. on_result n (fitted (s1.cells (Local name)) bs) h.line _ _ (λ c. go s1))

  fits_in : (params : List Formal) (n : ℕ) (h : Here) (k l : Then) → AgreeEnter n e f → AgreeThen n k l → AgreeThen n (fits params (at e h) k) (fits params (at f h) l)
  fits_in [] n h k l ok go = go
  fits_in (p ∷ params) n h k l ok go = one_fits p.mode p.kind p.name p.bounds params n h k l ok (fits_in params n h k l ok go)

  returns_in : (a : Placed) (n : ℕ) (h : Here) (k l : ThenValue) → AgreeEnter n e f → AgreeOn n k l → AgreeThen n (returns a (at e h) k) (returns a (at f h) l)
  returns_in a n h k l ok go = claim_in a.algorithm.wanted n h _ _ ok (λ s1. on_result n (gives a.algorithm.head.gives s1) (a.first + a.algorithm.close) (λ v. k v s1) (λ v. l v s1) (λ v. go v s1))

  proceeds_in : (a : Placed) (c d n : ℕ) (h : Here) (k l : ThenValue) → n ≤ c → n ≤ d → AgreeEnter n e f → AgreeOn n k l → AgreeThen n (proceeds a (at e h) c k) (proceeds a (at f h) d l)
  proceeds_in a c d n h k l lc ld ok go =
      fits_in a.algorithm.head.params n h _ _ ok (claim_in a.algorithm.given n h _ _ ok
      (runs_in a.algorithm.body c d n h _ _ _ _ lc ld ok (returns_in a n h k l ok go) (returns_in a n h k l ok go)))

receives_in : (room : ℕ) (params : List Formal) (passed : List Passed) (line : ℕ) (s : Store) (n : ℕ) (k l : Then) → AgreeThen n k l → AgreeThen n (receives_all room params passed line s k) (receives_all room params passed line s l)
receives_in room [] passed line s n k l go = go
receives_in room (p ∷ params) [] line s n k l go = go
receives_in room (p ∷ params) (a ∷ passed) line s n k l go =
    λ g. on_result n (receives room p a s g) line _ _ (λ g1. receives_in room params passed line s n k l go g1)

-- ---- calls and programs

enters_all : (p : Program) (allowed : Allowed) (c d n depth : ℕ) → n ≤ c → n ≤ d → AgreeEnter n (enters p allowed c depth) (enters p allowed d depth)
enters_all p allowed zero d n depth lc ld = λ m below line a passed s k l go. absurd (omega arith)
enters_all p allowed (suc c) zero n depth lc ld = λ m below line a passed s k l go. absurd (omega arith)
enters_all p allowed (suc c) (suc d) n depth lc ld = λ m below line a passed s k l go.
    let e = enters p allowed c (suc depth) in
    let f = enters p allowed d (suc depth) in
    on_choice m (nat_lt depth allowed.depth) _ _ _ _
    (λ s1. receives_in allowed.room a.algorithm.head.params passed line s1 m _ _
    (proceeds_in e f a c d m (at_header p allowed.room e a) _ _ (omega arith) (omega arith) (enters_all p allowed c d m (suc depth) (omega arith) (omega arith)) (λ v g. go v (copied_out a.algorithm.head.params passed g s1)))
    (fresh s1.used))
    (λ s1. same m _) s

pub starts_in : (l : List Placed) (p : Program) (allowed : Allowed) (c d n : ℕ) → n ≤ c → n ≤ d → Agree n (starts l p allowed c) (starts l p allowed d)
starts_in [] p allowed c d n lc ld = same n _
starts_in (a ∷ more) p allowed c d n lc ld =
    let e = enters p allowed c 1 in
    let f = enters p allowed d 1 in
    proceeds_in e f a c d n (at_header p allowed.room e a) _ _ lc ld (enters_all p allowed c d n 1 lc ld) (λ v g. same n (stops state.Done)) (fresh 0)

pub counter_is_enough : (allowed : Allowed) (p : Program) (inputs : List Value) (replies : List Reply) (c n : ℕ) → n ≤ c → starts p.algorithms p allowed c n inputs replies ≡ run_within allowed p inputs replies n
unfolding run_within
counter_is_enough allowed p inputs replies c n le = starts_in p.algorithms p allowed c n n le (omega arith) n (omega arith) inputs replies
