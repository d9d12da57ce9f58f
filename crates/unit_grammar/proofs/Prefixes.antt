-- What goes on can be completed.
use Rattle.std.proofs.Common.{◌≡◌, ℕ, List, [], ◌∷◌, ◌++◌, Option, Some, None, ap, sym, ◌∙◌, refl, ⊎_elim, map}
use Rattle.kumir_tree.specs.Tree as tree
use Rattle.kumir_tree.specs.Tree.{Tree}
use Rattle.kumir_tree.specs.Part.{Head}
use Rattle.kumir_tree.specs.Piece as p
use Rattle.kumir_tree.specs.Piece.{Piece}
use Rattle.kumir_tree.specs.Program.{Stmt, Stands, Forever, Choose, Select, done}
use Rattle.kumir_tree.specs.Blocks.{block_listed, arms_listed}
use Rattle.kumir_tree.specs.Unit.{Algorithm}
use Rattle.unit_grammar.specs.Grammar.{Placed, IsUnit}
use Rattle.unit_grammar.specs.Stages.{Stage, within, next, ◌>>=◌, stage_from, Begins}
use Rattle.unit_grammar.specs.Machine as machine
use Rattle.unit_grammar.specs.Machine.{Frame, Looping, Endless, Chosen, Cased, Top, Body, State, Empty, AfterHeader, AfterGiven, AfterWanted, Inside, NeedsThen, NeedsCase, Whole, put, opened, closed, with_arm, close, close_when, another_case, otherwise, choice_end, finish, go_on, inside, empty, with_given, with_wanted, step, run, open_of, stage_of}
use Rattle.unit_grammar.proofs.Blocks.{none_is, body_at, unit_runs}
use Rattle.unit_grammar.proofs.Led.{some_of, unit_sound}

-- ---- the stage of a state goes on as the state does

abbrev pub seen : Option State → Option Stage
seen None = None
seen (Some s) = Some (stage_of s)

close_seen : (top : Top) (here : List Stmt) (stack : List Frame) → seen (go_on top (close here stack)) ≡ within (map open_of stack) p.Close
close_seen top here [] = refl
close_seen top here (Looping before line act ∷ stack) = refl
close_seen top here (Endless before line ∷ stack) = refl
close_seen top here (Chosen before line e ∷ stack) = refl
close_seen top here (Cased before line arms m e ∷ stack) = refl
close_seen top here (machine.Otherwise before line act ∷ stack) = refl

close_when_seen : (top : Top) (line : ℕ) (x : Tree) (here : List Stmt) (stack : List Frame) → seen (go_on top (close_when line x here stack)) ≡ within (map open_of stack) (p.CloseWhen x)
close_when_seen top n x here [] = refl
close_when_seen top n x here (Looping before line act ∷ stack) = refl
close_when_seen top n x here (Endless before line ∷ stack) = refl
close_when_seen top n x here (Chosen before line e ∷ stack) = refl
close_when_seen top n x here (Cased before line arms m e ∷ stack) = refl
close_when_seen top n x here (machine.Otherwise before line act ∷ stack) = refl

case_seen : (top : Top) (line : ℕ) (x : Tree) (here : List Stmt) (stack : List Frame) → seen (go_on top (another_case line x here stack)) ≡ within (map open_of stack) (p.When x)
case_seen top n x here [] = refl
case_seen top n x here (Looping before line act ∷ stack) = refl
case_seen top n x here (Endless before line ∷ stack) = refl
case_seen top n x here (Chosen before line e ∷ stack) = refl
case_seen top n x here (Cased before line arms m e ∷ stack) = refl
case_seen top n x here (machine.Otherwise before line act ∷ stack) = refl

otherwise_seen : (top : Top) (here : List Stmt) (stack : List Frame) → seen (go_on top (otherwise here stack)) ≡ within (map open_of stack) p.Otherwise
otherwise_seen top here [] = refl
otherwise_seen top here (Looping before line act ∷ stack) = refl
otherwise_seen top here (Endless before line ∷ stack) = refl
otherwise_seen top here (Chosen before line e ∷ stack) = refl
otherwise_seen top here (Cased before line arms m e ∷ stack) = refl
otherwise_seen top here (machine.Otherwise before line act ∷ stack) = refl

end_seen : (top : Top) (here : List Stmt) (stack : List Frame) → seen (go_on top (choice_end here stack)) ≡ within (map open_of stack) p.ChoiceEnd
end_seen top here [] = refl
end_seen top here (Looping before line act ∷ stack) = refl
end_seen top here (Endless before line ∷ stack) = refl
end_seen top here (Chosen before line e ∷ stack) = refl
end_seen top here (Cased before line arms m e ∷ stack) = refl
end_seen top here (machine.Otherwise before line act ∷ stack) = refl

finish_seen : (line : ℕ) (top : Top) (here : List Stmt) (stack : List Frame) → seen (finish line top here stack) ≡ within (map open_of stack) p.Finish
finish_seen line top here [] = refl
finish_seen line top here (frame ∷ stack) = refl

inside_seen : (top : Top) (b : Body) (line : ℕ) (f : Piece) → seen (inside top b line f) ≡ within (map open_of b.stack) f
inside_seen top b line p.Close = close_seen top b.here b.stack
inside_seen top b line (p.CloseWhen x) = close_when_seen top line x b.here b.stack
inside_seen top b line (p.When x) = case_seen top line x b.here b.stack
inside_seen top b line p.Otherwise = otherwise_seen top b.here b.stack
inside_seen top b line p.ChoiceEnd = end_seen top b.here b.stack
inside_seen top b line p.Finish = finish_seen line top b.here b.stack
inside_seen top b line f = refl

step_seen : (s : State) (line : ℕ) (f : Piece) → seen (step s (line, f)) ≡ next (stage_of s) f
step_seen Empty line (p.Header h) = refl
step_seen Empty line f = refl
step_seen (AfterHeader top) line (p.Given x) = refl
step_seen (AfterHeader top) line (p.Wanted x) = refl
step_seen (AfterHeader top) line p.Begin = refl
step_seen (AfterHeader top) line f = refl
step_seen (AfterGiven top) line (p.Wanted x) = refl
step_seen (AfterGiven top) line p.Begin = refl
step_seen (AfterGiven top) line f = refl
step_seen (AfterWanted top) line p.Begin = refl
step_seen (AfterWanted top) line f = refl
step_seen (Inside top b) line f = inside_seen top b line f
step_seen (NeedsThen top b m c) line p.Then = refl
step_seen (NeedsThen top b m c) line f = refl
step_seen (NeedsCase top b m) line (p.When x) = refl
step_seen (NeedsCase top b m) line f = refl
step_seen (Whole a) line f = refl

pub run_seen : (fs : List Placed) (s : State) → seen (run s fs) ≡ stage_from (stage_of s) fs
run_seen [] s = refl
run_seen (f ∷ fs) s =
    let go : (o : Option State) → seen (o >>= (λ later. run later fs)) ≡ (seen o >>= (λ later. stage_from later fs)) = elim [ None ↦ refl | Some later ↦ run_seen fs later ] in
    go (step s f) ∙ ap (λ o. o >>= (λ later. stage_from later fs)) (step_seen s f.0 f.1)

-- ---- each state can be completed

abbrev Completed : State → Type 0
Completed state = (more : List Placed) × (a : Algorithm) × (run state more ≡ Some (Whole a))

closing_body : (top : Top) (stack : List Frame) (here : List Stmt) → Completed (Inside top (body_at here stack))
closing_body top [] here = ((0, p.Finish) ∷ [], record { head = top.head; given = top.given; wanted = top.wanted; body = block_listed here; close = 0 }, refl)
closing_body top (Looping before line act ∷ stack) here = let k = closing_body top stack (before ++ Stands line (act (block_listed here)) ∷ []) in ((0, p.Close) ∷ k.0, k.1, k.2)
closing_body top (Endless before line ∷ stack) here = let k = closing_body top stack (before ++ Stands line (Forever (block_listed here)) ∷ []) in ((0, p.Close) ∷ k.0, k.1, k.2)
closing_body top (Chosen before line e ∷ stack) here = let k = closing_body top stack (before ++ Stands line (Choose e (block_listed here) done) ∷ []) in ((0, p.ChoiceEnd) ∷ k.0, k.1, k.2)
closing_body top (Cased before line arms m e ∷ stack) here = let k = closing_body top stack (before ++ Stands line (Select (arms_listed (with_arm arms m e here)) done) ∷ []) in ((0, p.ChoiceEnd) ∷ k.0, k.1, k.2)
closing_body top (machine.Otherwise before line act ∷ stack) here = let k = closing_body top stack (before ++ Stands line (act (block_listed here)) ∷ []) in ((0, p.ChoiceEnd) ∷ k.0, k.1, k.2)

abbrev blank : Head
blank = record { name = None; gives = None; params = []; line = 0 }

closing : (state : State) → Completed state
closing Empty = let k = closing_body (record { head = blank; given = None; wanted = None }) [] [] in ((0, p.Header blank) ∷ (0, p.Begin) ∷ k.0, k.1, k.2)
closing (AfterHeader top) = let k = closing_body top [] [] in ((0, p.Begin) ∷ k.0, k.1, k.2)
closing (AfterGiven top) = let k = closing_body top [] [] in ((0, p.Begin) ∷ k.0, k.1, k.2)
closing (AfterWanted top) = let k = closing_body top [] [] in ((0, p.Begin) ∷ k.0, k.1, k.2)
closing (Inside top b) = closing_body top b.stack b.here
closing (NeedsThen top b m c) = let k = closing_body top (Chosen b.here m c ∷ b.stack) [] in ((0, p.Then) ∷ k.0, k.1, k.2)
closing (NeedsCase top b m) = let k = closing_body top (Cased b.here m [] 0 tree.Answer ∷ b.stack) [] in ((0, p.When tree.Answer) ∷ k.0, k.1, k.2)
closing (Whole a) = ([], a, refl)

pub run_append : (fs gs : List Placed) (state : State) → run state (fs ++ gs) ≡ run state fs >>= (λ later. run later gs)
run_append [] gs state = refl
run_append (f ∷ fs) gs state =
    let go : (o : Option State) → (o >>= (λ later. run later (fs ++ gs))) ≡ ((o >>= (λ later. run later fs)) >>= (λ later. run later gs)) = elim [ None ↦ refl | Some later ↦ run_append fs gs later ] in
    go (step state f)

-- ---- the law

abbrev pub BeginsSome : List Placed → Type 0
BeginsSome fs = (more : List Placed) × (a : Algorithm) × IsUnit (fs ++ more) a

begins_some : (fs : List Placed) → Begins fs → BeginsSome fs
begins_some fs b =
    ⊎_elim
    (λ (e : run Empty fs ≡ None). none_is (ap seen (sym e) ∙ (run_seen fs Empty ∙ b.1)))
    (λ (s : (state : State) × (run Empty fs ≡ Some state)).
    let k = closing s.0 in
    (k.0, k.1, unit_sound (fs ++ k.0) k.1 (run_append fs k.0 Empty ∙ (ap (λ o. o >>= (λ later. run later k.0)) s.1 ∙ k.2))))
    (some_of (run Empty fs))

pub run_of_begins : (fs gs : List Placed) (state : State) → run Empty (fs ++ gs) ≡ Some state → (before : State) × (run Empty fs ≡ Some before)
run_of_begins fs gs state e =
    ⊎_elim
    (λ (h : run Empty fs ≡ None). none_is (sym (run_append fs gs Empty ∙ ap (λ o. o >>= (λ later. run later gs)) h) ∙ e))
    (λ (s : (before : State) × (run Empty fs ≡ Some before)). s)
    (some_of (run Empty fs))

some_begins : (fs : List Placed) → BeginsSome fs → Begins fs
some_begins fs u =
    let s = run_of_begins fs u.0 (Whole u.1) (unit_runs u.2) in
    (stage_of s.0, sym (run_seen fs Empty) ∙ ap seen s.1)

pub begins : (fs : List Placed) → (Begins fs → BeginsSome fs) × (BeginsSome fs → Begins fs)
begins fs = (begins_some fs, some_begins fs)

same_whole : {a b : Algorithm} → Some (Whole a) ≡ Some (Whole b) → a ≡ b
same_whole h = cc

pub one_tree : (fs : List Placed) (a b : Algorithm) → IsUnit fs a → IsUnit fs b → a ≡ b
one_tree fs a b u v = same_whole (sym (unit_runs u) ∙ unit_runs v)
