-- The machine and the grammar of units.
use Rattle.std.proofs.Common.{◌≡◌, ℕ, List, [], ◌∷◌, ◌++◌, Option, Some, None, ap, sym, ◌∙◌, refl, append_assoc, append-nil}
use Rattle.kumir_tree.specs.Tree.{Tree}
use Rattle.kumir_tree.specs.Part.{Head}
use Rattle.kumir_tree.specs.Piece as p
use Rattle.kumir_tree.specs.Piece.{Piece}
use Rattle.kumir_tree.specs.Program.{Stmt, Act, Stands, Choose, Select, Block, done}
use Rattle.kumir_tree.specs.Blocks.{Arm, block_listed, arms_listed}
use Rattle.kumir_tree.specs.Unit.{Algorithm}
use Rattle.unit_grammar.specs.Grammar.{Placed, statement_of, loop_of, IsSeq, none, statement, block, IsBlock, loop, until, choose, choose_otherwise, select, select_otherwise, IsCases, first_case, next_case, no_given, bare_given, given, no_wanted, bare_wanted, wanted, IsUnit, unit}
use Rattle.unit_grammar.specs.Stages.{◌>>=◌}
use Rattle.unit_grammar.specs.Machine as machine
use Rattle.unit_grammar.specs.Machine.{Frame, Looping, Endless, Chosen, Cased, Top, Body, State, Empty, AfterHeader, AfterGiven, AfterWanted, Inside, NeedsThen, NeedsCase, Whole, put, opened, closed, with_arm, close, close_when, another_case, otherwise, choice_end, finish, go_on, inside, empty, with_given, with_wanted, step, run, open_of, stage_of}

pub none_is : {A X : Type 0} {x : A} → None ≡ Some x → X
none_is h = absurd (let no : ⊥ = cc in no)

abbrev pub body_at : List Stmt → List Frame → Body
body_at here stack = record { here = here; stack = stack }

-- ---- what is in the grammar is run

abbrev doing : Top → Body → ℕ → Option Act → Option State
doing top b line o = o >>= (λ a. Some (Inside top (put b (Stands line a))))

one_statement : (top : Top) (b : Body) (line : ℕ) (f : Piece) (act : Act) → statement_of f ≡ Some act → inside top b line f ≡ Some (Inside top (put b (Stands line act)))
one_statement top b line (p.Declare d) act h = ap (doing top b line) h
one_statement top b line (p.Assign t e) act h = ap (doing top b line) h
one_statement top b line (p.Invoke x es) act h = ap (doing top b line) h
one_statement top b line (p.Assert e) act h = ap (doing top b line) h
one_statement top b line (p.Input ts) act h = ap (doing top b line) h
one_statement top b line (p.Output xs) act h = ap (doing top b line) h
one_statement top b line p.Leave act h = ap (doing top b line) h
one_statement top b line p.Quit act h = ap (doing top b line) h
one_statement top b line f act h = none_is h

abbrev Loops : Top → Body → ℕ → Piece → (Block → Act) → Type 0
Loops top b line f act = (frame : Frame)
    × (inside top b line f ≡ Some (Inside top (opened frame b)))
    × ((here : List Stmt) → close here (frame ∷ b.stack) ≡ Some (closed b.here (Stands line (act (block_listed here))) b.stack))

abbrev looping : Top → Body → ℕ → Option (Block → Act) → Option State
looping top b line o = o >>= (λ a. Some (Inside top (opened (Looping b.here line a) b)))

one_loop : (top : Top) (b : Body) (line : ℕ) (f : Piece) (act : Block → Act) → loop_of f ≡ Some act → Loops top b line f act
one_loop top b line (p.Times e) act h = (Looping b.here line act, ap (looping top b line) h, λ here. refl)
one_loop top b line (p.While e) act h = (Looping b.here line act, ap (looping top b line) h, λ here. refl)
one_loop top b line (p.Count x from to step) act h = (Looping b.here line act, ap (looping top b line) h, λ here. refl)
one_loop top b line p.Forever act h = (Endless b.here line, refl, λ here. ap (λ (o : Option (Block → Act)). o >>= (λ a. Some (closed b.here (Stands line (a (block_listed here))) b.stack))) h)
one_loop top b line f act h = none_is h

abbrev RunsCases : List Placed → List Arm → Type 0
RunsCases fs arms = (top : Top) (here : List Stmt) (stack : List Frame) (line : ℕ) (rest : List Placed) → (before : List Arm) × (at_line : ℕ) × (e : Tree) × (ss : List Stmt)
    × (arms ≡ with_arm before at_line e ss)
    × (run (NeedsCase top (body_at here stack) line) (fs ++ rest) ≡ run (Inside top (body_at ss (Cased here line before at_line e ∷ stack))) rest)

mutual
  seq_runs : {fs : List Placed} {ss : List Stmt} → IsSeq fs ss → (top : Top) (here : List Stmt) (stack : List Frame) (rest : List Placed) → run (Inside top (body_at here stack)) (fs ++ rest) ≡ run (Inside top (body_at (here ++ ss) stack)) rest
  seq_runs none = λ top here stack rest. ap (λ l. run (Inside top (body_at l stack)) rest) (sym (append-nil here))
  seq_runs (statement line f {fs} {act} {ss} e a) = λ top here stack rest.
      ap (λ o. o >>= (λ later. run later (fs ++ rest))) (one_statement top (body_at here stack) line f act e)
      ∙ seq_runs a top (here ++ Stands line act ∷ []) stack rest
      ∙ ap (λ l. run (Inside top (body_at l stack)) rest) (append_assoc here (Stands line act ∷ []) ss)
  seq_runs (block {bs} {fs} {s} {ss} a c) = λ top here stack rest.
      ap (run (Inside top (body_at here stack))) (append_assoc bs fs rest)
      ∙ block_runs a top here stack (fs ++ rest)
      ∙ seq_runs c top (here ++ s ∷ []) stack rest
      ∙ ap (λ l. run (Inside top (body_at l stack)) rest) (append_assoc here (s ∷ []) ss)

  block_runs : {bs : List Placed} {s : Stmt} → IsBlock bs s → (top : Top) (here : List Stmt) (stack : List Frame) (rest : List Placed) → run (Inside top (body_at here stack)) (bs ++ rest) ≡ run (Inside top (body_at (here ++ s ∷ []) stack)) rest
  block_runs (loop line end f {act} {fs} {ss} e a) = λ top here stack rest.
      let w = one_loop top (body_at here stack) line f act e in
      ap (λ o. o >>= (λ later. run later ((fs ++ (end, p.Close) ∷ []) ++ rest))) w.1
      ∙ ap (run (Inside top (body_at [] (w.0 ∷ stack)))) (append_assoc fs ((end, p.Close) ∷ []) rest)
      ∙ seq_runs a top [] (w.0 ∷ stack) ((end, p.Close) ∷ rest)
      ∙ ap (λ o. go_on top o >>= (λ later. run later rest)) (w.2 ss)
  block_runs (until line end e {fs} {ss} a) = λ top here stack rest.
      ap (run (Inside top (body_at [] (Endless here line ∷ stack)))) (append_assoc fs ((end, p.CloseWhen e) ∷ []) rest)
      ∙ seq_runs a top [] (Endless here line ∷ stack) ((end, p.CloseWhen e) ∷ rest)
  block_runs (choose line m n e {fs} {ss} a) = λ top here stack rest.
      ap (run (Inside top (body_at [] (Chosen here line e ∷ stack)))) (append_assoc fs ((n, p.ChoiceEnd) ∷ []) rest)
      ∙ seq_runs a top [] (Chosen here line e ∷ stack) ((n, p.ChoiceEnd) ∷ rest)
  block_runs (choose_otherwise line m n o e {fs} {gs} {ss} {us} a c) = λ top here stack rest.
      ap (run (Inside top (body_at [] (Chosen here line e ∷ stack)))) (append_assoc fs ((n, p.Otherwise) ∷ (gs ++ (o, p.ChoiceEnd) ∷ [])) rest)
      ∙ seq_runs a top [] (Chosen here line e ∷ stack) ((n, p.Otherwise) ∷ ((gs ++ (o, p.ChoiceEnd) ∷ []) ++ rest))
      ∙ ap (run (Inside top (body_at [] (machine.Otherwise here line (Choose e (block_listed ss)) ∷ stack)))) (append_assoc gs ((o, p.ChoiceEnd) ∷ []) rest)
      ∙ seq_runs c top [] (machine.Otherwise here line (Choose e (block_listed ss)) ∷ stack) ((o, p.ChoiceEnd) ∷ rest)
  block_runs (select line n {fs} {arms} c) = λ top here stack rest.
      let k = cases_runs c top here stack line ((n, p.ChoiceEnd) ∷ rest) in
      ap (run (NeedsCase top (body_at here stack) line)) (append_assoc fs ((n, p.ChoiceEnd) ∷ []) rest)
      ∙ k.5
      ∙ ap (λ l. run (Inside top (body_at (here ++ Stands line (Select (arms_listed l) done) ∷ []) stack)) rest) (sym k.4)
  block_runs (select_otherwise line n o {fs} {gs} {arms} {us} c a) = λ top here stack rest.
      let k = cases_runs c top here stack line ((n, p.Otherwise) ∷ ((gs ++ (o, p.ChoiceEnd) ∷ []) ++ rest)) in
      ap (run (NeedsCase top (body_at here stack) line)) (append_assoc fs ((n, p.Otherwise) ∷ (gs ++ (o, p.ChoiceEnd) ∷ [])) rest)
      ∙ k.5
      ∙ ap (λ l. run (Inside top (body_at [] (machine.Otherwise here line (Select (arms_listed l)) ∷ stack))) ((gs ++ (o, p.ChoiceEnd) ∷ []) ++ rest)) (sym k.4)
      ∙ ap (run (Inside top (body_at [] (machine.Otherwise here line (Select (arms_listed arms)) ∷ stack)))) (append_assoc gs ((o, p.ChoiceEnd) ∷ []) rest)
      ∙ seq_runs a top [] (machine.Otherwise here line (Select (arms_listed arms)) ∷ stack) ((o, p.ChoiceEnd) ∷ rest)

  cases_runs : {fs : List Placed} {arms : List Arm} → IsCases fs arms → RunsCases fs arms
  cases_runs (first_case m e {fs} {ss} a) = λ top here stack line rest. ([], m, e, ss, refl, seq_runs a top [] (Cased here line [] m e ∷ stack) rest)
  cases_runs (next_case m e {fs} {gs} {ss} {arms} c a) = λ top here stack line rest.
      let k = cases_runs c top here stack line ((m, p.When e) ∷ (fs ++ rest)) in (
        arms,
        m,
        e,
        ss,
        refl,
        ap (run (NeedsCase top (body_at here stack) line)) (append_assoc gs ((m, p.When e) ∷ fs) rest)
            ∙ k.5
            ∙ ap (λ l. run (Inside top (body_at [] (Cased here line l m e ∷ stack))) (fs ++ rest)) (sym k.4)
            ∙ seq_runs a top [] (Cased here line arms m e ∷ stack) rest,
      )

abbrev topped : Head → Option (ℕ × Tree) → Option (ℕ × Tree) → Top
topped h g w = record { head = h; given = g; wanted = w }

pub unit_runs : {fs : List Placed} {a : Algorithm} → IsUnit fs a → run Empty fs ≡ Some (Whole a)
unit_runs (unit line begin end h no_given no_wanted r) = seq_runs r (topped h None None) [] [] ((end, p.Finish) ∷ [])
unit_runs (unit line begin end h no_given (bare_wanted w) r) = seq_runs r (topped h None None) [] [] ((end, p.Finish) ∷ [])
unit_runs (unit line begin end h no_given (wanted w e) r) = seq_runs r (topped h None (Some (w, e))) [] [] ((end, p.Finish) ∷ [])
unit_runs (unit line begin end h (bare_given g) no_wanted r) = seq_runs r (topped h None None) [] [] ((end, p.Finish) ∷ [])
unit_runs (unit line begin end h (bare_given g) (bare_wanted w) r) = seq_runs r (topped h None None) [] [] ((end, p.Finish) ∷ [])
unit_runs (unit line begin end h (bare_given g) (wanted w e) r) = seq_runs r (topped h None (Some (w, e))) [] [] ((end, p.Finish) ∷ [])
unit_runs (unit line begin end h (given g d) no_wanted r) = seq_runs r (topped h (Some (g, d)) None) [] [] ((end, p.Finish) ∷ [])
unit_runs (unit line begin end h (given g d) (bare_wanted w) r) = seq_runs r (topped h (Some (g, d)) None) [] [] ((end, p.Finish) ∷ [])
unit_runs (unit line begin end h (given g d) (wanted w e) r) = seq_runs r (topped h (Some (g, d)) (Some (w, e))) [] [] ((end, p.Finish) ∷ [])
