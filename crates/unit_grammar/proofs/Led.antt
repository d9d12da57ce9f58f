-- What is run is in the grammar.
use Rattle.std.proofs.Common.{◌≡◌, ℕ, List, [], ◌∷◌, ◌++◌, Option, Some, None, ap, sym, ◌∙◌, subst, refl, append_assoc, append-nil, ◌⊎◌, inl, inr, ⊎_elim}
use Rattle.kumir_tree.specs.Tree.{Tree}
use Rattle.kumir_tree.specs.Piece as p
use Rattle.kumir_tree.specs.Piece.{Piece}
use Rattle.kumir_tree.specs.Program.{Stmt, Act, Stands, Times, While, Count, Forever, Until, Choose, Select, done}
use Rattle.kumir_tree.specs.Blocks.{Arm, block_listed, arms_listed}
use Rattle.kumir_tree.specs.Unit.{Algorithm}
use Rattle.unit_grammar.specs.Grammar.{Placed, statement_of, loop_of, IsSeq, none, statement, block, IsBlock, loop, until, choose, choose_otherwise, select, select_otherwise, IsCases, first_case, next_case, IsGiven, no_given, bare_given, given, IsWanted, no_wanted, bare_wanted, wanted, IsUnit, unit}
use Rattle.unit_grammar.specs.Stages.{◌>>=◌}
use Rattle.unit_grammar.specs.Machine as machine
use Rattle.unit_grammar.specs.Machine.{Frame, Looping, Endless, Chosen, Cased, Top, Body, State, Empty, AfterHeader, AfterGiven, AfterWanted, Inside, NeedsThen, NeedsCase, Whole, put, opened, closed, with_arm, close, close_when, another_case, otherwise, choice_end, finish, go_on, inside, empty, with_given, with_wanted, step, run, stated}
use Rattle.unit_grammar.proofs.Blocks.{none_is, body_at}

moved : {A : Type 0} {x y : A} (P : A → Type 0) → Some x ≡ Some y → P x → P y
moved P h k = subst P (let e = h in cc) k

-- ---- sequences one behind the other

seq_append : {fs gs : List Placed} {ss us : List Stmt} → IsSeq fs ss → IsSeq gs us → IsSeq (fs ++ gs) (ss ++ us)
seq_append none c = c
seq_append (statement line f e a) c = statement line f e (seq_append a c)
seq_append {gs} {us} (block {bs} {fs} {s} {ss} a d) c = subst (λ l. IsSeq l (s ∷ (ss ++ us))) (sym (append_assoc bs fs gs)) (block a (seq_append d c))

one_block : {bs : List Placed} {s : Stmt} → IsBlock bs s → IsSeq bs (s ∷ [])
one_block {bs} {s} a = subst (λ l. IsSeq l (s ∷ [])) (append-nil bs) (block a none)

seq_block : {fs bs : List Placed} {ss : List Stmt} {s : Stmt} → IsSeq fs ss → IsBlock bs s → IsSeq (fs ++ bs) (ss ++ s ∷ [])
seq_block a b = seq_append a (one_block b)

-- ---- the forms that lead to a state

-- the cases before the last one
abbrev SoFar : List Placed → List Arm → Type 0
SoFar cs arms = ((cs ≡ []) × (arms ≡ [])) ⊎ IsCases cs arms

abbrev before_of : Frame → List Stmt
before_of (Looping before line act) = before
before_of (Endless before line) = before
before_of (Chosen before line e) = before
before_of (Cased before line arms m e) = before
before_of (machine.Otherwise before line act) = before

-- the forms of an open block before its innermost statements
abbrev Front : Frame → List Placed → Type 0
Front (Looping before line act) front = (f : Piece) × (loop_of f ≡ Some act) × (front ≡ (line, f) ∷ [])
Front (Endless before line) front = front ≡ (line, p.Forever) ∷ []
Front (Chosen before line e) front = (m : ℕ) × (front ≡ (line, p.Choose e) ∷ (m, p.Then) ∷ [])
Front (Cased before line arms m e) front = (cs : List Placed) × SoFar cs arms × (front ≡ (line, p.Select) ∷ (cs ++ (m, p.When e) ∷ []))
Front (machine.Otherwise before line act) front = (gs : List Placed) (us : List Stmt) (end : ℕ) → IsSeq gs us → IsBlock (front ++ (gs ++ (end, p.ChoiceEnd) ∷ [])) (Stands line (act (block_listed us)))

abbrev pub Before : Top → List Frame → List Placed → Type 0
Before top [] us = (line m : ℕ) × (gs ws : List Placed) × IsGiven gs top.given × IsWanted ws top.wanted × (us ≡ (line, p.Header top.head) ∷ (gs ++ (ws ++ (m, p.Begin) ∷ [])))
Before top (frame ∷ stack) us = (vs gs front : List Placed) × Before top stack vs × IsSeq gs (before_of frame) × Front frame front × (us ≡ vs ++ (gs ++ front))

-- a body, with more behind it
abbrev pub InBody : Top → Body → List Placed → List Placed → Type 0
InBody top b tail fs = (us gs : List Placed) × Before top b.stack us × IsSeq gs b.here × (fs ≡ us ++ (gs ++ tail))

abbrev pub Led : State → List Placed → Type 0
Led Empty fs = fs ≡ []
Led (AfterHeader top) fs = (line : ℕ) × (top.given ≡ None) × (top.wanted ≡ None) × (fs ≡ (line, p.Header top.head) ∷ [])
Led (AfterGiven top) fs = (line : ℕ) × (gs : List Placed) × IsGiven gs top.given × (top.wanted ≡ None) × (fs ≡ (line, p.Header top.head) ∷ gs)
Led (AfterWanted top) fs = (line : ℕ) × (gs ws : List Placed) × IsGiven gs top.given × IsWanted ws top.wanted × (fs ≡ (line, p.Header top.head) ∷ (gs ++ ws))
Led (Inside top b) fs = InBody top b [] fs
Led (NeedsThen top b line e) fs = InBody top b ((line, p.Choose e) ∷ []) fs
Led (NeedsCase top b line) fs = InBody top b ((line, p.Select) ∷ []) fs
Led (Whole a) fs = IsUnit fs a

-- ---- one form more

behind : (us gs tail tail2 fs : List Placed) → fs ≡ us ++ (gs ++ tail) → fs ++ tail2 ≡ us ++ (gs ++ (tail ++ tail2))
behind us gs tail tail2 fs e = ap (λ l. l ++ tail2) e ∙ (append_assoc us (gs ++ tail) tail2 ∙ ap (λ l. us ++ l) (append_assoc gs tail tail2))

put_one : (top : Top) (b : Body) (line : ℕ) (f : Piece) (act : Act) (fs : List Placed) → statement_of f ≡ Some act → InBody top b [] fs → InBody top (put b (Stands line act)) [] (fs ++ (line, f) ∷ [])
put_one top b line f act fs e l = (
  l.0,
  l.1 ++ (line, f) ∷ [],
  l.2,
  seq_append l.3 (statement line f e none),
  behind l.0 l.1 [] ((line, f) ∷ []) fs l.4 ∙ ap (λ k. l.0 ++ k) (sym (append-nil (l.1 ++ (line, f) ∷ []))),
)

open_one : (top : Top) (b : Body) (front tail2 fs : List Placed) (frame : Frame) → b.here ≡ before_of frame → Front frame (front ++ tail2) → InBody top b front fs → InBody top (opened frame b) [] (fs ++ tail2)
open_one top b front tail2 fs frame same f l =
    (fs ++ tail2, [], (l.0, l.1, front ++ tail2, l.2, subst (IsSeq l.1) same l.3, f, behind l.0 l.1 front tail2 fs l.4), none, sym (append-nil (fs ++ tail2)))

-- a block that ends becomes a statement
close_one : (top : Top) (frame : Frame) (here : List Stmt) (stack : List Frame) (tail2 fs : List Placed) (s : Stmt)
    → ((front hs : List Placed) → Front frame front → IsSeq hs here → IsBlock (front ++ (hs ++ tail2)) s)
    → InBody top (body_at here (frame ∷ stack)) [] fs → InBody top (closed (before_of frame) s stack) [] (fs ++ tail2)
close_one top frame here stack tail2 fs s made l =
    let k = l.2 in
    let e : fs ++ tail2 ≡ k.0 ++ (k.1 ++ (k.2 ++ (l.1 ++ tail2))) = behind l.0 l.1 [] tail2 fs l.4 ∙ (ap (λ u. u ++ (l.1 ++ tail2)) k.6 ∙ (append_assoc k.0 (k.1 ++ k.2) (l.1 ++ tail2) ∙ ap (λ u. k.0 ++ u) (append_assoc k.1 k.2 (l.1 ++ tail2)))) in
    (k.0, k.1 ++ (k.2 ++ (l.1 ++ tail2)), k.3, seq_block k.4 (made k.2 l.1 k.5 l.3), e ∙ ap (λ u. k.0 ++ u) (sym (append-nil (k.1 ++ (k.2 ++ (l.1 ++ tail2))))))

-- a block goes on with other statements
turn_one : (top : Top) (frame later : Frame) (here : List Stmt) (stack : List Frame) (tail2 fs : List Placed) → before_of frame ≡ before_of later
    → ((front hs : List Placed) → Front frame front → IsSeq hs here → Front later (front ++ (hs ++ tail2)))
    → InBody top (body_at here (frame ∷ stack)) [] fs → InBody top (body_at [] (later ∷ stack)) [] (fs ++ tail2)
turn_one top frame later here stack tail2 fs same made l =
    let k = l.2 in
    let e : fs ++ tail2 ≡ k.0 ++ (k.1 ++ (k.2 ++ (l.1 ++ tail2))) = behind l.0 l.1 [] tail2 fs l.4 ∙ (ap (λ u. u ++ (l.1 ++ tail2)) k.6 ∙ (append_assoc k.0 (k.1 ++ k.2) (l.1 ++ tail2) ∙ ap (λ u. k.0 ++ u) (append_assoc k.1 k.2 (l.1 ++ tail2)))) in
    (fs ++ tail2, [], (k.0, k.1, k.2 ++ (l.1 ++ tail2), k.3, subst (IsSeq k.1) same k.4, made k.2 l.1 k.5 l.3, e), none, sym (append-nil (fs ++ tail2)))

-- ---- ends of blocks

with_case : (cs gs : List Placed) (arms : List Arm) (ss : List Stmt) (n : ℕ) (c : Tree) → SoFar cs arms → IsSeq gs ss → IsCases (cs ++ (n, p.When c) ∷ gs) (with_arm arms n c ss)
with_case cs gs arms ss n c (inl k) s = subst (λ u. IsCases (u ++ (n, p.When c) ∷ gs) (with_arm arms n c ss)) (sym k.0) (subst (λ a. IsCases ((n, p.When c) ∷ gs) (with_arm a n c ss)) (sym k.1) (first_case n c s))
with_case cs gs arms ss n c (inr k) s = next_case n c k s

led_close : (top : Top) (here : List Stmt) (stack : List Frame) (fs : List Placed) (line : ℕ) (later : State) → InBody top (body_at here stack) [] fs → go_on top (close here stack) ≡ Some later → Led later (fs ++ (line, p.Close) ∷ [])
led_close top here (Looping before m act ∷ stack) fs line later l e = moved (λ s. Led s (fs ++ (line, p.Close) ∷ [])) e
    (close_one top (Looping before m act) here stack ((line, p.Close) ∷ []) fs (Stands m (act (block_listed here)))
    (λ front hs f s. subst (λ u. IsBlock (u ++ (hs ++ (line, p.Close) ∷ [])) (Stands m (act (block_listed here)))) (sym f.2) (loop m line f.0 f.1 s)) l)
led_close top here (Endless before m ∷ stack) fs line later l e = moved (λ s. Led s (fs ++ (line, p.Close) ∷ [])) e
    (close_one top (Endless before m) here stack ((line, p.Close) ∷ []) fs (Stands m (Forever (block_listed here)))
    (λ front hs f s. subst (λ u. IsBlock (u ++ (hs ++ (line, p.Close) ∷ [])) (Stands m (Forever (block_listed here)))) (sym f) (loop m line p.Forever refl s)) l)
led_close top here stack fs line later l e = none_is e

led_close_when : (top : Top) (here : List Stmt) (stack : List Frame) (fs : List Placed) (line : ℕ) (x : Tree) (later : State) → InBody top (body_at here stack) [] fs → go_on top (close_when line x here stack) ≡ Some later → Led later (fs ++ (line, p.CloseWhen x) ∷ [])
led_close_when top here (Endless before m ∷ stack) fs line x later l e = moved (λ s. Led s (fs ++ (line, p.CloseWhen x) ∷ [])) e
    (close_one top (Endless before m) here stack ((line, p.CloseWhen x) ∷ []) fs (Stands m (Until (block_listed here) line x))
    (λ front hs f s. subst (λ u. IsBlock (u ++ (hs ++ (line, p.CloseWhen x) ∷ [])) (Stands m (Until (block_listed here) line x))) (sym f) (until m line x s)) l)
led_close_when top here stack fs line x later l e = none_is e

led_case : (top : Top) (here : List Stmt) (stack : List Frame) (fs : List Placed) (line : ℕ) (x : Tree) (later : State) → InBody top (body_at here stack) [] fs → go_on top (another_case line x here stack) ≡ Some later → Led later (fs ++ (line, p.When x) ∷ [])
led_case top here (Cased before m arms n c ∷ stack) fs line x later l e = moved (λ s. Led s (fs ++ (line, p.When x) ∷ [])) e
    (turn_one top (Cased before m arms n c) (Cased before m (with_arm arms n c here) line x) here stack ((line, p.When x) ∷ []) fs refl
    (λ front hs f s. (
      f.0 ++ (n, p.When c) ∷ hs,
      inr (with_case f.0 hs arms here n c f.1 s),
      ap (λ u. u ++ (hs ++ (line, p.When x) ∷ [])) f.2 ∙ simp append_assoc,
    )) l)
led_case top here stack fs line x later l e = none_is e

led_otherwise : (top : Top) (here : List Stmt) (stack : List Frame) (fs : List Placed) (line : ℕ) (later : State) → InBody top (body_at here stack) [] fs → go_on top (otherwise here stack) ≡ Some later → Led later (fs ++ (line, p.Otherwise) ∷ [])
led_otherwise top here (Chosen before m x ∷ stack) fs line later l e = moved (λ s. Led s (fs ++ (line, p.Otherwise) ∷ [])) e
    (turn_one top (Chosen before m x) (machine.Otherwise before m (Choose x (block_listed here))) here stack ((line, p.Otherwise) ∷ []) fs refl
    (λ front hs f s. λ gs us end q. subst (λ u. IsBlock ((u ++ (hs ++ (line, p.Otherwise) ∷ [])) ++ (gs ++ (end, p.ChoiceEnd) ∷ [])) (Stands m (Choose x (block_listed here) (block_listed us)))) (sym f.1)
    (subst (λ u. IsBlock ((m, p.Choose x) ∷ (f.0, p.Then) ∷ u) (Stands m (Choose x (block_listed here) (block_listed us)))) (sym (append_assoc hs ((line, p.Otherwise) ∷ []) (gs ++ (end, p.ChoiceEnd) ∷ []))) (choose_otherwise m f.0 line end x s q))) l)
led_otherwise top here (Cased before m arms n c ∷ stack) fs line later l e = moved (λ s. Led s (fs ++ (line, p.Otherwise) ∷ [])) e
    (turn_one top (Cased before m arms n c) (machine.Otherwise before m (Select (arms_listed (with_arm arms n c here)))) here stack ((line, p.Otherwise) ∷ []) fs refl
    (λ front hs f s. λ gs us end q. subst (λ u. IsBlock ((u ++ (hs ++ (line, p.Otherwise) ∷ [])) ++ (gs ++ (end, p.ChoiceEnd) ∷ [])) (Stands m (Select (arms_listed (with_arm arms n c here)) (block_listed us)))) (sym f.2)
    (subst (λ u. IsBlock ((m, p.Select) ∷ u) (Stands m (Select (arms_listed (with_arm arms n c here)) (block_listed us))))
    (let same : (f.0 ++ (n, p.When c) ∷ hs) ++ (line, p.Otherwise) ∷ (gs ++ (end, p.ChoiceEnd) ∷ []) ≡ ((f.0 ++ (n, p.When c) ∷ []) ++ (hs ++ (line, p.Otherwise) ∷ [])) ++ (gs ++ (end, p.ChoiceEnd) ∷ []) = simp append_assoc in same)
    (select_otherwise m line end (with_case f.0 hs arms here n c f.1 s) q))) l)
led_otherwise top here stack fs line later l e = none_is e

led_end : (top : Top) (here : List Stmt) (stack : List Frame) (fs : List Placed) (line : ℕ) (later : State) → InBody top (body_at here stack) [] fs → go_on top (choice_end here stack) ≡ Some later → Led later (fs ++ (line, p.ChoiceEnd) ∷ [])
led_end top here (Chosen before m x ∷ stack) fs line later l e = moved (λ s. Led s (fs ++ (line, p.ChoiceEnd) ∷ [])) e
    (close_one top (Chosen before m x) here stack ((line, p.ChoiceEnd) ∷ []) fs (Stands m (Choose x (block_listed here) done))
    (λ front hs f s. subst (λ u. IsBlock (u ++ (hs ++ (line, p.ChoiceEnd) ∷ [])) (Stands m (Choose x (block_listed here) done))) (sym f.1) (choose m f.0 line x s)) l)
led_end top here (Cased before m arms n c ∷ stack) fs line later l e = moved (λ s. Led s (fs ++ (line, p.ChoiceEnd) ∷ [])) e
    (close_one top (Cased before m arms n c) here stack ((line, p.ChoiceEnd) ∷ []) fs (Stands m (Select (arms_listed (with_arm arms n c here)) done))
    (λ front hs f s. subst (λ u. IsBlock (u ++ (hs ++ (line, p.ChoiceEnd) ∷ [])) (Stands m (Select (arms_listed (with_arm arms n c here)) done))) (sym f.2)
    (subst (λ u. IsBlock ((m, p.Select) ∷ u) (Stands m (Select (arms_listed (with_arm arms n c here)) done)))
    (let same : (f.0 ++ (n, p.When c) ∷ hs) ++ (line, p.ChoiceEnd) ∷ [] ≡ (f.0 ++ (n, p.When c) ∷ []) ++ (hs ++ (line, p.ChoiceEnd) ∷ []) = simp append_assoc in same)
    (select m line (with_case f.0 hs arms here n c f.1 s)))) l)
led_end top here (machine.Otherwise before m act ∷ stack) fs line later l e = moved (λ s. Led s (fs ++ (line, p.ChoiceEnd) ∷ [])) e
    (close_one top (machine.Otherwise before m act) here stack ((line, p.ChoiceEnd) ∷ []) fs (Stands m (act (block_listed here))) (λ front hs f s. f hs here line s) l)
led_end top here [] fs line later l e = none_is e
led_end top here (Looping before m act ∷ stack) fs line later l e = none_is e
led_end top here (Endless before m ∷ stack) fs line later l e = none_is e

led_finish : (top : Top) (here : List Stmt) (stack : List Frame) (fs : List Placed) (line : ℕ) (later : State) → InBody top (body_at here stack) [] fs → finish line top here stack ≡ Some later → Led later (fs ++ (line, p.Finish) ∷ [])
led_finish top here [] fs line later l e = moved (λ s. Led s (fs ++ (line, p.Finish) ∷ [])) e
    (let k = l.2 in
    subst (λ u. IsUnit u (record { head = top.head; given = top.given; wanted = top.wanted; body = block_listed here; close = line }))
    (let same : (k.0, p.Header top.head) ∷ (k.2 ++ (k.3 ++ (k.1, p.Begin) ∷ (l.1 ++ (line, p.Finish) ∷ []))) ≡ fs ++ (line, p.Finish) ∷ [] =
    sym (ap (λ u. u ++ (line, p.Finish) ∷ []) (l.4 ∙ ap (λ u. u ++ (l.1 ++ [])) k.6) ∙ simp (append_assoc, append-nil)) in same)
    (unit k.0 k.1 line top.head k.4 k.5 l.3))
led_finish top here (frame ∷ stack) fs line later l e = none_is e

-- ---- every form

is_given : (line : ℕ) (x : Option Tree) → IsGiven ((line, p.Given x) ∷ []) (stated line x)
is_given line None = bare_given line
is_given line (Some x) = given line x

is_wanted : (line : ℕ) (x : Option Tree) → IsWanted ((line, p.Wanted x) ∷ []) (stated line x)
is_wanted line None = bare_wanted line
is_wanted line (Some x) = wanted line x

led_inside : (top : Top) (b : Body) (fs : List Placed) (line : ℕ) (f : Piece) (later : State) → InBody top b [] fs → inside top b line f ≡ Some later → Led later (fs ++ (line, f) ∷ [])
led_inside top b fs line (p.Declare d) later l e = moved (λ s. Led s (fs ++ (line, p.Declare d) ∷ [])) e (put_one top b line (p.Declare d) _ fs refl l)
led_inside top b fs line (p.Assign t x) later l e = moved (λ s. Led s (fs ++ (line, p.Assign t x) ∷ [])) e (put_one top b line (p.Assign t x) _ fs refl l)
led_inside top b fs line (p.Invoke x es) later l e = moved (λ s. Led s (fs ++ (line, p.Invoke x es) ∷ [])) e (put_one top b line (p.Invoke x es) _ fs refl l)
led_inside top b fs line (p.Assert x) later l e = moved (λ s. Led s (fs ++ (line, p.Assert x) ∷ [])) e (put_one top b line (p.Assert x) _ fs refl l)
led_inside top b fs line (p.Input ts) later l e = moved (λ s. Led s (fs ++ (line, p.Input ts) ∷ [])) e (put_one top b line (p.Input ts) _ fs refl l)
led_inside top b fs line (p.Output xs) later l e = moved (λ s. Led s (fs ++ (line, p.Output xs) ∷ [])) e (put_one top b line (p.Output xs) _ fs refl l)
led_inside top b fs line p.Leave later l e = moved (λ s. Led s (fs ++ (line, p.Leave) ∷ [])) e (put_one top b line p.Leave _ fs refl l)
led_inside top b fs line p.Quit later l e = moved (λ s. Led s (fs ++ (line, p.Quit) ∷ [])) e (put_one top b line p.Quit _ fs refl l)
led_inside top b fs line (p.Times x) later l e = moved (λ s. Led s (fs ++ (line, p.Times x) ∷ [])) e (open_one top b [] ((line, p.Times x) ∷ []) fs (Looping b.here line (Times x)) refl (p.Times x, refl, refl) l)
led_inside top b fs line (p.While x) later l e = moved (λ s. Led s (fs ++ (line, p.While x) ∷ [])) e (open_one top b [] ((line, p.While x) ∷ []) fs (Looping b.here line (While x)) refl (p.While x, refl, refl) l)
led_inside top b fs line (p.Count x from to by) later l e = moved (λ s. Led s (fs ++ (line, p.Count x from to by) ∷ [])) e (open_one top b [] ((line, p.Count x from to by) ∷ []) fs (Looping b.here line (Count x from to by)) refl (p.Count x from to by, refl, refl) l)
led_inside top b fs line p.Forever later l e = moved (λ s. Led s (fs ++ (line, p.Forever) ∷ [])) e (open_one top b [] ((line, p.Forever) ∷ []) fs (Endless b.here line) refl refl l)
led_inside top b fs line (p.Choose x) later l e = moved (λ s. Led s (fs ++ (line, p.Choose x) ∷ [])) e (l.0, l.1, l.2, l.3, behind l.0 l.1 [] ((line, p.Choose x) ∷ []) fs l.4)
led_inside top b fs line p.Select later l e = moved (λ s. Led s (fs ++ (line, p.Select) ∷ [])) e (l.0, l.1, l.2, l.3, behind l.0 l.1 [] ((line, p.Select) ∷ []) fs l.4)
led_inside top b fs line p.Close later l e = led_close top b.here b.stack fs line later l e
led_inside top b fs line (p.CloseWhen x) later l e = led_close_when top b.here b.stack fs line x later l e
led_inside top b fs line (p.When x) later l e = led_case top b.here b.stack fs line x later l e
led_inside top b fs line p.Otherwise later l e = led_otherwise top b.here b.stack fs line later l e
led_inside top b fs line p.ChoiceEnd later l e = led_end top b.here b.stack fs line later l e
led_inside top b fs line p.Finish later l e = led_finish top b.here b.stack fs line later l e
led_inside top b fs line f later l e = none_is e

started : (top : Top) (fs : List Placed) → Before top [] fs → Led (Inside top empty) fs
started top fs u = (fs, [], u, none, sym (append-nil fs))

led_step : (state : State) (fs : List Placed) (line : ℕ) (f : Piece) (later : State) → Led state fs → step state (line, f) ≡ Some later → Led later (fs ++ (line, f) ∷ [])
led_step Empty fs line (p.Header h) later l e = moved (λ s. Led s (fs ++ (line, p.Header h) ∷ [])) e (line, refl, refl, ap (λ u. u ++ (line, p.Header h) ∷ []) l)
led_step Empty fs line f later l e = none_is e
led_step (AfterHeader top) fs line (p.Given x) later l e = moved (λ s. Led s (fs ++ (line, p.Given x) ∷ [])) e
    (l.0, (line, p.Given x) ∷ [], is_given line x, l.2, ap (λ u. u ++ (line, p.Given x) ∷ []) l.3)
led_step (AfterHeader top) fs line (p.Wanted x) later l e = moved (λ s. Led s (fs ++ (line, p.Wanted x) ∷ [])) e
    (l.0, [], (line, p.Wanted x) ∷ [], subst (IsGiven []) (sym l.1) no_given, is_wanted line x, ap (λ u. u ++ (line, p.Wanted x) ∷ []) l.3)
led_step (AfterHeader top) fs line p.Begin later l e = moved (λ s. Led s (fs ++ (line, p.Begin) ∷ [])) e
    (started top (fs ++ (line, p.Begin) ∷ []) (l.0, line, [], [], subst (IsGiven []) (sym l.1) no_given, subst (IsWanted []) (sym l.2) no_wanted, ap (λ u. u ++ (line, p.Begin) ∷ []) l.3))
led_step (AfterHeader top) fs line f later l e = none_is e
led_step (AfterGiven top) fs line (p.Wanted x) later l e = moved (λ s. Led s (fs ++ (line, p.Wanted x) ∷ [])) e
    (l.0, l.1, (line, p.Wanted x) ∷ [], l.2, is_wanted line x, ap (λ u. u ++ (line, p.Wanted x) ∷ []) l.4)
led_step (AfterGiven top) fs line p.Begin later l e = moved (λ s. Led s (fs ++ (line, p.Begin) ∷ [])) e
    (started top (fs ++ (line, p.Begin) ∷ []) (l.0, line, l.1, [], l.2, subst (IsWanted []) (sym l.3) no_wanted, ap (λ u. u ++ (line, p.Begin) ∷ []) l.4))
led_step (AfterGiven top) fs line f later l e = none_is e
led_step (AfterWanted top) fs line p.Begin later l e = moved (λ s. Led s (fs ++ (line, p.Begin) ∷ [])) e
    (started top (fs ++ (line, p.Begin) ∷ []) (
      l.0,
      line,
      l.1,
      l.2,
      l.3,
      l.4,
      ap (λ u. u ++ (line, p.Begin) ∷ []) l.5 ∙ ap (λ u. (l.0, p.Header top.head) ∷ u) (append_assoc l.1 l.2 ((line, p.Begin) ∷ [])),
    ))
led_step (AfterWanted top) fs line f later l e = none_is e
led_step (Inside top b) fs line f later l e = led_inside top b fs line f later l e
led_step (NeedsThen top b m c) fs line p.Then later l e = moved (λ s. Led s (fs ++ (line, p.Then) ∷ [])) e
    (open_one top b ((m, p.Choose c) ∷ []) ((line, p.Then) ∷ []) fs (Chosen b.here m c) refl (line, refl) l)
led_step (NeedsThen top b m c) fs line f later l e = none_is e
led_step (NeedsCase top b m) fs line (p.When x) later l e = moved (λ s. Led s (fs ++ (line, p.When x) ∷ [])) e
    (open_one top b ((m, p.Select) ∷ []) ((line, p.When x) ∷ []) fs (Cased b.here m [] line x) refl ([], inl (refl, refl), refl) l)
led_step (NeedsCase top b m) fs line f later l e = none_is e
led_step (Whole a) fs line f later l e = none_is e

pub some_of : {A : Type 0} (o : Option A) → (o ≡ None) ⊎ ((x : A) × (o ≡ Some x))
some_of None = inl refl
some_of (Some x) = inr (x, refl)

led_run : (fs us : List Placed) (state later : State) → Led state us → run state fs ≡ Some later → Led later (us ++ fs)
led_run [] us state later l e = moved (λ s. Led s (us ++ [])) e (subst (Led state) (sym (append-nil us)) l)
led_run (f ∷ fs) us state later l e =
    ⊎_elim
    (λ (none : step state f ≡ None). none_is (ap (λ o. o >>= (λ s. run s fs)) (sym none) ∙ e))
    (λ (k : (s : State) × (step state f ≡ Some s)). subst (Led later) (append_assoc us (f ∷ []) fs) (led_run fs (us ++ f ∷ []) k.0 later (led_step state us f.0 f.1 k.0 l k.1) (ap (λ o. o >>= (λ s. run s fs)) (sym k.1) ∙ e)))
    (some_of (step state f))

-- the machine ends with an algorithm only where the grammar makes it
pub unit_sound : (fs : List Placed) (a : Algorithm) → run Empty fs ≡ Some (Whole a) → IsUnit fs a
unit_sound fs a e = led_run fs [] Empty (Whole a) refl e
