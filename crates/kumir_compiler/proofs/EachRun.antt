-- What each step, act, reply and input keeps holds of the run of each program.
use Rattle.std.proofs.Common.{◌≢◌, ℕ, zero, suc, ◌+◌, Bool, true, false, List, [], ◌∷◌, Option, Some, None, Result, Ok, Err}
use Rattle.std.specs.Prelude.{ℤ, pos, ◌+ℤ◌, nat_lt, cond}
use Rattle.std.specs.Ordering.{int_eq}
use Rattle.kumir_tree.specs.declared.kind.Kind.{Kind}
use Rattle.kumir_tree.specs.declared.kind.Mode.{Mode}
use Rattle.kumir_tree.specs.declared.kind.Mode.TheVariants.{Arg, Res, ArgRes}
use Rattle.kumir_tree.specs.Tree.{Tree, Number, Truth as TruthOf, Answer, Named, Element, Call, Plus, Minus, Not, Binary, Trees, no_trees, ◌then◌}
use Rattle.kumir_tree.specs.Part.{Limits, Place, ToAnswer, ToScalar, ToElement, Shown, ShowValue, ShowText, ShowLine, Declares, Scalars, Tables, Formal}
use Rattle.kumir_tree.specs.Program as tree
use Rattle.kumir_tree.specs.Program.{Stmt, Stands, Declare, Assign, Invoke, Times, While, Count, Forever, Until, Choose, Select, Assert, Input, Output, Leave, Quit, Block, done, ◌next◌, Arms, no_arms, arm}
use Rattle.performer_kit.specs.declared.commands.RobotCommand.{RobotCommand}
use Rattle.performer_kit.specs.declared.commands.PenCommand.{PenCommand}
use Rattle.performer_kit.specs.declared.commands.Command.TheVariants.{Robot, Pen}
use Rattle.performer_kit.specs.declared.commands.Reply.{Reply}
use Rattle.kumir_values.specs.declared.value.Value.{Value}
use Rattle.kumir_values.specs.declared.value.Value.TheVariants.{Whole, Truth}
use Rattle.kumir_values.specs.declared.bounds.Bound.{Bound}
use Rattle.kumir_values.specs.declared.run_end.RunFault.{RunFault}
use Rattle.kumir_names.specs.declared.built_in.BuiltIn.{BuiltIn}
use Rattle.kumir_names.specs.declared.variable.Variable.{Variable}
use Rattle.kumir_names.specs.Variables.{variable}
use Rattle.kumir_names.specs.Callees.{Callee, Called, BuiltInCall, RobotCall, PenCall}
use Rattle.kumir_meaning.specs.Program.{Placed, Program, callee_in, stmt_names, block_names}
use Rattle.kumir_meaning.specs.Operators.{number_of, is_yes, turns_of, text_of, combined, decided, negated, applied}
use Rattle.kumir_meaning.specs.Store.{TheAnswer, Local, Has, Store, with_cell, read, element, Spot, AtVariable, AtElement, settled, read_at, put, made, fitted}
use Rattle.kumir_meaning.specs.Runs as state
use Rattle.kumir_meaning.specs.Runs.{Printed, Sent, RunState, Awaiting, Rest, Allowed, stops, unless_fault, tick, does, asks, takes, choose, reply_value, is_wall, pen_command}
use Rattle.kumir_meaning.specs.Expressions.{Then, ThenValue, ThenValues, Passed, ByValue, ByPlace, ByTable, Enter, Here, on_line, behind, nonsense, steps_in, calls, named, unless_decided, passes, name_of, numbers_of, eval, values, args, fixes, bounds}
use Rattle.kumir_meaning.specs.Loops.{Body, turns, while_yes, past, counts, forever, until}
use Rattle.kumir_meaning.specs.Statements.{aims, stores, claims, cleared, makes, establishes, invokes, takes_for, kind_at, inputs, outputs, stride, carries_out, runs, selects}
use Rattle.kumir_meaning.specs.Algorithms.{some_claim, fits, gives, returns, proceeds, at_header, receives, receives_all, copied_out, fresh, enters, starts}

-- what goes on has this property, from each store on, and for each value
abbrev pub Each : (Rest → Type 0) → Then → Type 0
Each P k = (s : Store) → P (k s)

abbrev pub EachOf : {X : Type 0} → (Rest → Type 0) → (X → Then) → Type 0
EachOf {X} P k = (x : X) → Each P (k x)

-- each end, step, act, reply and input keeps it; a command stands behind its step
pub record IsKept (P : Rest → Type 0) : Type 0 where
  pub ends : (end : RunState) → end ≢ Awaiting → P (stops end)
  pub ticks : (k : Then) → Each P k → Each P (tick k)
  pub prints : (text : List ℕ) (k : Then) → Each P k → Each P (does (Printed text) k)
  pub draws : (command : PenCommand) (k : Then) → Each P k → Each P (tick (λ s. does (Sent (Pen command)) k s))
  pub asks : (command : RobotCommand) (k : Reply → Then) → EachOf P k → Each P (tick (λ s. asks (Robot command) k s))
  pub takes : (kind : Kind) (line : ℕ) (k : ThenValue) → EachOf P k → Each P (takes kind line k)

module _ (P : Rest → Type 0) (keeps : IsKept P) where
  abbrev EachThen : Then → Type 0
  EachThen k = Each P k

  abbrev EachOn : {X : Type 0} → (X → Then) → Type 0
  EachOn {X} k = EachOf P k

  -- what is handed what goes on
  abbrev EachPart : {X : Type 0} → ((X → Then) → Then) → Type 0
  EachPart {X} f = (k : X → Then) → EachOn k → EachThen (f k)

  abbrev EachBody : Body → Type 0
  EachBody f = (out k : Then) → EachThen out → EachThen k → EachThen (f out k)

  abbrev EachCall : Enter → Type 0
  EachCall e = (line : ℕ) (a : Placed) (passed : List Passed) (s : Store) (k : ThenValue) → EachOn k → P (e line a passed s k)

  faulty : (line : ℕ) (fault : RunFault) → P (stops (state.Fault line fault))
  faulty line fault = keeps.ends (state.Fault line fault) (λ e. cc)

  going : P (stops state.Going)
  going = keeps.ends state.Going (λ e. cc)

  result : {T : Type 0} (r : Result T RunFault) (line : ℕ) (k : T → Rest) → ((t : T) → P (k t)) → P (unless_fault r line k)
  result (Ok t) line k go = go t
  result (Err fault) line k go = faulty line fault

  choice : (c : Bool) (a b : Then) → EachThen a → EachThen b → EachThen (choose c a b)
  choice true a b f g s = f s
  choice false a b f g s = g s

  -- ---- expressions

  enters_each : (a : Placed) (passed : List Passed) (h : Here) (k : ThenValue) → EachCall h.enter → EachOn k → EachThen (steps_in a passed h k)
  enters_each a passed h k ok go = keeps.ticks _ (λ s. ok h.line a passed s k go)

  calls_each : (c : Option (Callee Placed)) (al : Placed → Then) (bl : BuiltIn → Then) (h : Here) (k : ThenValue) → EachOn al → EachOn bl → EachOn k → EachThen (calls c al bl h k)
  calls_each (Some (Called a)) al bl h k ga gb go = ga a
  calls_each (Some (BuiltInCall b)) al bl h k ga gb go = gb b
  calls_each (Some (RobotCall c)) al bl h k ga gb go = keeps.asks c (λ r. k (reply_value r)) (λ r. go (reply_value r))
  calls_each (Some (PenCall c)) al bl h k ga gb go = λ s. faulty h.line _
  calls_each None al bl h k ga gb go = λ s. faulty h.line _

  named_each : (o : Option Variable) (x : List ℕ) (h : Here) (k : ThenValue) → EachCall h.enter → EachOn k → EachThen (named o x h k)
  named_each (Some v) x h k ok go = λ s. result (read (s.cells (Local x))) h.line (λ w. k w s) (λ w. go w s)
  named_each None x h k ok go = calls_each (callee_in h.program x) (λ a. steps_in a [] h k) (λ b s. nonsense h) h k (λ a. enters_each a [] h k ok go) (λ b s. faulty h.line _) go

  decided_each : (o : Option Value) (k : ThenValue) (a : Then) → EachOn k → EachThen a → EachThen (unless_decided o k a)
  decided_each (Some v) k a go h = go v
  decided_each None k a go h = h

  passes_each : (o : Option Limits) (mode : Mode) (x : List ℕ) (vl : ThenValue → Then) (pl : (Spot → Then) → Then) (h : Here) (k : Passed → Then) → EachPart vl → EachPart pl → EachOn k → EachThen (passes o mode x vl pl h k)
  passes_each (Some limits) mode x vl pl h k hv hp go = go (ByTable x)
  passes_each None Arg x vl pl h k hv hp go = hv (λ v. k (ByValue v)) (λ v. go (ByValue v))
  passes_each None Res x vl pl h k hv hp go = hp (λ spot. k (ByPlace spot None)) (λ spot. go (ByPlace spot None))
  passes_each None ArgRes x vl pl h k hv hp go = hp _ (λ spot s1. result (read_at spot s1) h.line (λ v. k (ByPlace spot (Some v)) s1) (λ v. go (ByPlace spot (Some v)) s1))

  mutual
    eval_each : (t : Tree) (h : Here) (k : ThenValue) → EachCall h.enter → EachOn k → EachThen (eval t h k)
    eval_each (Number z) h k ok go = go (Whole z)
    eval_each (TruthOf b) h k ok go = go (Truth b)
    eval_each Answer h k ok go = λ s. result (read (s.cells TheAnswer)) h.line (λ v. k v s) (λ v. go v s)
    eval_each (Named x) h k ok go = named_each (variable h.locals x) x h k ok go
    eval_each (Element x es) h k ok go = values_each es h _ ok (λ is s1. result (element (s1.cells (Local x)) (numbers_of is)) h.line (λ v. k v s1) (λ v. go v s1))
    eval_each (Call g es) h k ok go =
        calls_each (callee_in h.program g) (λ a. args es a.algorithm.head.params h (λ passed. steps_in a passed h k)) (λ b. values es h (λ vs s1. unless_fault (applied b vs) h.line (λ v. k v s1))) h k
        (λ a. args_each es a.algorithm.head.params h _ ok (λ passed. enters_each a passed h k ok go))
        (λ b. values_each es h _ ok (λ vs s1. result (applied b vs) h.line (λ v. k v s1) (λ v. go v s1)))
        go
    eval_each (Plus a) h k ok go = eval_each a h k ok go
    eval_each (Minus a) h k ok go = eval_each a h _ ok (λ v s1. result (negated v) h.line (λ w. k w s1) (λ w. go w s1))
    eval_each (Not a) h k ok go = eval_each a h _ ok (λ v. go (Truth (cond (is_yes v) false true)))
    eval_each (Binary o a b) h k ok go =
        eval_each a h _ ok (λ v. decided_each (decided o v) k _ go (eval_each b h _ ok (λ w s2. result (combined o v w) h.line (λ x. k x s2) (λ x. go x s2))))

    values_each : (es : Trees) (h : Here) (k : ThenValues) → EachCall h.enter → EachOn k → EachThen (values es h k)
    values_each no_trees h k ok go = go []
    values_each (t then es) h k ok go = eval_each t h _ ok (λ v. values_each es h _ ok (λ vs. go (v ∷ vs)))

    args_each : (es : Trees) (params : List Formal) (h : Here) (k : List Passed → Then) → EachCall h.enter → EachOn k → EachThen (args es params h k)
    args_each no_trees params h k ok go = go []
    args_each (t then es) [] h k ok go = go []
    args_each (t then es) (p ∷ params) h k ok go =
        passes_each p.bounds p.mode (name_of t) (λ k1. eval t h k1) (λ k1. fixes t h k1) h _ (λ k1 go1. eval_each t h k1 ok go1) (λ k1 go1. fixes_each t h k1 ok go1)
        (λ a. args_each es params h _ ok (λ more. go (a ∷ more)))

    fixes_each : (t : Tree) (h : Here) (k : Spot → Then) → EachCall h.enter → EachOn k → EachThen (fixes t h k)
    fixes_each (Named x) h k ok go = go (AtVariable (Local x))
    fixes_each (Element x es) h k ok go = values_each es h _ ok (λ is s1. result (settled (AtElement x (numbers_of is)) s1) h.line (λ spot. k spot s1) (λ spot. go spot s1))
    fixes_each (Number z) h k ok go = λ s. faulty h.line _
    fixes_each (TruthOf b) h k ok go = λ s. faulty h.line _
    fixes_each Answer h k ok go = λ s. faulty h.line _
    fixes_each (Call g es) h k ok go = λ s. faulty h.line _
    fixes_each (Plus a) h k ok go = λ s. faulty h.line _
    fixes_each (Minus a) h k ok go = λ s. faulty h.line _
    fixes_each (Not a) h k ok go = λ s. faulty h.line _
    fixes_each (Binary o a b) h k ok go = λ s. faulty h.line _

  bounds_each : (limits : Limits) (h : Here) (k : List Bound → Then) → EachCall h.enter → EachOn k → EachThen (bounds limits h k)
  bounds_each [] h k ok go = go []
  bounds_each (limit ∷ limits) h k ok go =
      eval_each limit.0 h _ ok (λ low. eval_each limit.1 h _ ok (λ high. bounds_each limits h _ ok (λ bs. go (record { low = number_of low; high = number_of high } ∷ bs))))

  -- ---- statements

  aims_each : (x : Place) (h : Here) (k : Spot → Then) → EachCall h.enter → EachOn k → EachThen (aims x h k)
  aims_each ToAnswer h k ok go = go (AtVariable TheAnswer)
  aims_each (ToScalar x) h k ok go = go (AtVariable (Local x))
  aims_each (ToElement x es) h k ok go = values_each es h _ ok (λ is. go (AtElement x (numbers_of is)))

  stores_each : (spot : Spot) (v : Value) (h : Here) (k : Then) → EachThen k → EachThen (stores spot v h k)
  stores_each spot v h k go s = result (settled spot s) h.line (λ there. k (put there (Some v) s)) (λ there. go (put there (Some v) s))

  claims_each : (t : Tree) (h : Here) (k : Then) → EachCall h.enter → EachThen k → EachThen (claims t h k)
  claims_each t h k ok go = eval_each t h _ ok (λ v. choice (is_yes v) k (λ s1. stops (state.Assert h.line)) go (λ s1. keeps.ends (state.Assert h.line) (λ e. cc)))

  makes_each : (kind : Kind) (xs : List (List ℕ × Limits)) (h : Here) (k : Then) → EachCall h.enter → EachThen k → EachThen (makes kind xs h k)
  makes_each kind [] h k ok go = go
  makes_each kind (x ∷ xs) h k ok go = bounds_each x.1 h _ ok (λ bs s1. result (made h.room kind bs (Local x.0) s1) h.line (λ s2. makes kind xs h k s2) (λ s2. makes_each kind xs h k ok go s2))

  establishes_each : (d : Declares) (h : Here) (k : Then) → EachCall h.enter → EachThen k → EachThen (establishes d h k)
  establishes_each (Scalars kind names) h k ok go = λ s. go (cleared names s)
  establishes_each (Tables kind tables) h k ok go = makes_each kind tables h k ok go

  invokes_each : (c : Option (Callee Placed)) (es : Trees) (h : Here) (k : Then) → EachCall h.enter → EachThen k → EachThen (invokes c es h k)
  invokes_each (Some (Called a)) es h k ok go = args_each es a.algorithm.head.params h _ ok (λ passed. enters_each a passed h (λ v. k) ok (λ v. go))
  invokes_each (Some (RobotCall c)) es h k ok go =
      keeps.asks c (λ r. choose (is_wall r) (λ s2. stops (state.Wall h.line)) k) (λ r. choice (is_wall r) (λ s2. stops (state.Wall h.line)) k (λ s2. keeps.ends (state.Wall h.line) (λ e. cc)) go)
  invokes_each (Some (PenCall c)) es h k ok go = values_each es h _ ok (λ vs. keeps.draws (pen_command c (numbers_of vs)) k go)
  invokes_each (Some (BuiltInCall b)) es h k ok go = λ s. faulty h.line _
  invokes_each None es h k ok go = λ s. faulty h.line _

  takes_each : (o : Option Kind) (spot : Spot) (h : Here) (k : Then) → EachThen k → EachThen (takes_for o spot h k)
  takes_each (Some kind) spot h k go = keeps.takes kind h.line (λ v. stores spot v h k) (λ v. stores_each spot v h k go)
  takes_each None spot h k go = λ s. faulty h.line _

  inputs_each : (xs : List Place) (h : Here) (k : Then) → EachCall h.enter → EachThen k → EachThen (inputs xs h k)
  inputs_each [] h k ok go = go
  inputs_each (x ∷ xs) h k ok go = aims_each x h _ ok (λ spot. takes_each (kind_at spot h.locals) spot h _ (λ s1. inputs_each xs h k ok go s1))

  outputs_each : (xs : List Shown) (h : Here) (k : Then) → EachCall h.enter → EachThen k → EachThen (outputs xs h k)
  outputs_each [] h k ok go = go
  outputs_each (ShowValue t ∷ xs) h k ok go = eval_each t h _ ok (λ v. keeps.prints (text_of v) _ (outputs_each xs h k ok go))
  outputs_each (ShowText text ∷ xs) h k ok go = keeps.prints text _ (outputs_each xs h k ok go)
  outputs_each (ShowLine ∷ xs) h k ok go = keeps.prints (10 ∷ []) _ (outputs_each xs h k ok go)

  -- ---- loops

  while_each : (n : ℕ) (test : ThenValue → Then) (body : Body) (k : Then) → EachPart test → EachBody body → EachThen k → EachThen (while_yes n test body k)
  while_each zero test body k ht hb go = λ s. going
  while_each (suc n) test body k ht hb go = keeps.ticks _ (ht _ (λ v. choice (is_yes v) _ _ (hb k _ go (while_each n test body k ht hb go)) go))

  turns_each : (n left : ℕ) (body : Body) (k : Then) → EachBody body → EachThen k → EachThen (turns n left body k)
  turns_each zero left body k hb go = λ s. going
  turns_each (suc n) zero body k hb go = keeps.ticks k go
  turns_each (suc n) (suc left) body k hb go = keeps.ticks _ (hb k _ go (turns_each n left body k hb go))

  counts_each : (n : ℕ) (z last step : ℤ) (x : List ℕ) (body : Body) (k : Then) → EachBody body → EachThen k → EachThen (counts n z last step x body k)
  counts_each zero z last step x body k hb go = λ s. going
  counts_each (suc n) z last step x body k hb go =
      keeps.ticks _ (choice (past z last step) k _ go (λ s1. hb k _ go (counts_each n (z +ℤ step) last step x body k hb go) (with_cell s1 (Local x) (Has (Whole z)))))

  forever_each : (n : ℕ) (body : Body) (k : Then) → EachBody body → EachThen k → EachThen (forever n body k)
  forever_each zero body k hb go = λ s. going
  forever_each (suc n) body k hb go = keeps.ticks _ (hb k _ go (forever_each n body k hb go))

  until_each : (n : ℕ) (body : Body) (test : ThenValue → Then) (k : Then) → EachBody body → EachPart test → EachThen k → EachThen (until n body test k)
  until_each zero body test k hb ht go = λ s. going
  until_each (suc n) body test k hb ht go =
      keeps.ticks _ (hb k _ go (keeps.ticks _ (ht _ (λ v. choice (is_yes v) k _ go (until_each n body test k hb ht go)))))

  -- ---- blocks

  stride_each : (o : Option Tree) (h : Here) (k : ℤ → Then) → EachCall h.enter → EachOn k → EachThen (stride o h k)
  stride_each None h k ok go = go (pos 1)
  stride_each (Some t) h k ok go =
      eval_each t h _ ok (λ v. choice (int_eq (number_of v) (pos 0)) (λ s1. stops (state.Fault h.line _)) (k (number_of v)) (λ s1. faulty h.line _) (go (number_of v)))

  mutual
    carries_each : (a : tree.Act) (h : Here) (n : ℕ) (out k : Then) → EachCall h.enter → EachThen out → EachThen k → EachThen (carries_out a h n out k)
    carries_each (Declare x) h n out k ok away go = establishes_each x h k ok go
    carries_each (Assign x t) h n out k ok away go = aims_each x h _ ok (λ spot. eval_each t h _ ok (λ v. stores_each spot v h k go))
    carries_each (Invoke x es) h n out k ok away go = invokes_each (callee_in h.program x) es h k ok go
    carries_each (Times t b) h n out k ok away go = eval_each t h _ ok (λ v. turns_each n (turns_of v) _ k (λ o1 k1 far near. runs_each b h n o1 k1 ok far near) go)
    carries_each (While t b) h n out k ok away go = while_each n _ _ k (λ k1 go1. eval_each t h k1 ok go1) (λ o1 k1 far near. runs_each b h n o1 k1 ok far near) go
    carries_each (Count x from upto by b) h n out k ok away go =
        eval_each from h _ ok (λ v. eval_each upto h _ ok (λ w. stride_each by h _ ok (λ z. counts_each n (number_of v) (number_of w) z x _ k (λ o1 k1 far near. runs_each b h n o1 k1 ok far near) go)))
    carries_each (Forever b) h n out k ok away go = forever_each n _ k (λ o1 k1 far near. runs_each b h n o1 k1 ok far near) go
    carries_each (Until b line t) h n out k ok away go =
        until_each n _ _ k (λ o1 k1 far near. runs_each b h n o1 k1 ok far near) (λ k1 go1. eval_each t (on_line (behind h (block_names b)) line) k1 ok go1) go
    carries_each (Choose t a b) h n out k ok away go =
        eval_each t h _ ok (λ v. choice (is_yes v) _ _ (runs_each a h n out k ok away go) (runs_each b (behind h (block_names a)) n out k ok away go))
    carries_each (Select arms b) h n out k ok away go = selects_each arms h n out k _ ok away go (λ h1 ok1. runs_each b h1 n out k ok1 away go)
    carries_each (Assert t) h n out k ok away go = claims_each t h k ok go
    carries_each (Input xs) h n out k ok away go = inputs_each xs h k ok go
    carries_each (Output xs) h n out k ok away go = outputs_each xs h k ok go
    carries_each Leave h n out k ok away go = away
    carries_each Quit h n out k ok away go = λ s. keeps.ends state.Quit (λ e. cc)

    runs_each : (b : Block) (h : Here) (n : ℕ) (out k : Then) → EachCall h.enter → EachThen out → EachThen k → EachThen (runs b h n out k)
    runs_each done h n out k ok away go = go
    runs_each (Stands line a next b) h n out k ok away go =
        keeps.ticks _ (carries_each a (on_line h line) n out _ ok away (runs_each b (behind h (stmt_names (Stands line a))) n out k ok away go))

    selects_each : (arms : Arms) (h : Here) (n : ℕ) (out k : Then) (w : Here → Then) → EachCall h.enter → EachThen out → EachThen k → ((h1 : Here) → EachCall h1.enter → EachThen (w h1)) → EachThen (selects arms h n out k w)
    selects_each no_arms h n out k w ok away go last = last h ok
    selects_each (arm line t b more) h n out k w ok away go last =
        eval_each t (on_line h line) _ ok (λ v. choice (is_yes v) _ _ (runs_each b h n out k ok away go) (selects_each more (behind h (block_names b)) n out k w ok away go last))

  -- ---- algorithms

  claim_each : (o : Option (ℕ × Tree)) (h : Here) (k : Then) → EachCall h.enter → EachThen k → EachThen (some_claim o h k)
  claim_each None h k ok go = go
  claim_each (Some c) h k ok go = claims_each c.1 (on_line h c.0) k ok go

  one_fits : (mode : Mode) (kind : Kind) (name : List ℕ) (o : Option Limits) (params : List Formal) (h : Here) (k : Then) → EachCall h.enter → EachThen (fits params h k)
      → EachThen (fits (record { mode = mode; kind = kind; name = name; bounds = o } ∷ params) h k)
  one_fits mode kind name None params h k ok go = go
  one_fits mode kind name (Some limits) params h k ok go = bounds_each limits h _ ok (λ bs s1. result (fitted (s1.cells (Local name)) bs) h.line _ (λ c. go s1))

  fits_each : (params : List Formal) (h : Here) (k : Then) → EachCall h.enter → EachThen k → EachThen (fits params h k)
  fits_each [] h k ok go = go
  fits_each (p ∷ params) h k ok go = one_fits p.mode p.kind p.name p.bounds params h k ok (fits_each params h k ok go)

  returns_each : (a : Placed) (h : Here) (k : ThenValue) → EachCall h.enter → EachOn k → EachThen (returns a h k)
  returns_each a h k ok go = claim_each a.algorithm.wanted h _ ok (λ s1. result (gives a.algorithm.head.gives s1) (a.first + a.algorithm.close) (λ v. k v s1) (λ v. go v s1))

  proceeds_each : (a : Placed) (h : Here) (n : ℕ) (k : ThenValue) → EachCall h.enter → EachOn k → EachThen (proceeds a h n k)
  proceeds_each a h n k ok go =
      fits_each a.algorithm.head.params h _ ok (claim_each a.algorithm.given h _ ok (runs_each a.algorithm.body h n _ _ ok (returns_each a h k ok go) (returns_each a h k ok go)))

  receives_each : (room : ℕ) (params : List Formal) (passed : List Passed) (line : ℕ) (s : Store) (k : Then) → EachThen k → EachThen (receives_all room params passed line s k)
  receives_each room [] passed line s k go = go
  receives_each room (p ∷ params) [] line s k go = go
  receives_each room (p ∷ params) (a ∷ passed) line s k go = λ g. result (receives room p a s g) line _ (λ g1. receives_each room params passed line s k go g1)

  -- ---- calls and programs

  enters_all : (p : Program) (allowed : Allowed) (n depth : ℕ) → EachCall (enters p allowed n depth)
  enters_all p allowed zero depth = λ line a passed s k go. going
  enters_all p allowed (suc n) depth = λ line a passed s k go.
      choice (nat_lt depth allowed.depth) _ _
      (λ s1. receives_each allowed.room a.algorithm.head.params passed line s1 _
      (proceeds_each a (at_header p allowed.room (enters p allowed n (suc depth)) a) n _ (enters_all p allowed n (suc depth)) (λ v g. go v (copied_out a.algorithm.head.params passed g s1)))
      (fresh s1.used))
      (λ s1. faulty line _) s

  -- the run of each program
  pub each_run : (l : List Placed) (p : Program) (allowed : Allowed) (n : ℕ) → P (starts l p allowed n)
  each_run [] p allowed n = keeps.ends state.Done (λ e. cc)
  each_run (a ∷ more) p allowed n =
      proceeds_each a (at_header p allowed.room (enters p allowed n 1) a) n _ (enters_all p allowed n 1) (λ v g. keeps.ends state.Done (λ e. cc)) (fresh 0)
