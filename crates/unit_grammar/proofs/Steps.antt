-- What one form does, by its kind.
use Rattle.std.proofs.Common.{◌≡◌, Bool, true, false, ℕ, Option, Some, None, refl}
use Rattle.kumir_tree.specs.Program.{Stands}
use Rattle.kumir_tree.specs.Tree.{Tree}
use Rattle.unit_grammar.specs.Grammar.{Placed}
use Rattle.unit_grammar.specs.Machine as machine
use Rattle.unit_grammar.specs.Views.{ended, loop_act}
use Rattle.unit_grammar.specs.Kinds.{plain_piece, plain_act, loop_piece, end_placed, inner_placed, outer_piece, role_placed, is_then}
use Rattle.unit_grammar.specs.declared.frames.LoopHead.{LoopHead}
use Rattle.unit_grammar.specs.declared.frames.LoopHead.TheVariants as l
use Rattle.unit_grammar.specs.declared.frames.End.{End}
use Rattle.unit_grammar.specs.declared.frames.End.TheVariants as e
use Rattle.unit_grammar.specs.declared.roles.Plain.{Plain}
use Rattle.unit_grammar.specs.declared.roles.Plain.TheVariants as s
use Rattle.unit_grammar.specs.declared.roles.Inner.{Inner}
use Rattle.unit_grammar.specs.declared.roles.Inner.TheVariants as i
use Rattle.unit_grammar.specs.declared.roles.Outer.{Outer}
use Rattle.unit_grammar.specs.declared.roles.Outer.TheVariants as o
use Rattle.unit_grammar.specs.declared.roles.Role.{Role}
use Rattle.unit_grammar.specs.declared.roles.Role.TheVariants as r

-- ---- among statements

pub says : (t : machine.Top) (b : machine.Body) (line : ℕ) (x : Plain) → machine.step (machine.Inside t b) (line, plain_piece x) ≡ Some (machine.Inside t (machine.put b (Stands line (plain_act x))))
says t b line (s.Declare d) = refl
says t b line (s.Assign to x) = refl
says t b line (s.Call x xs) = refl
says t b line (s.Assert x) = refl
says t b line (s.Input ts) = refl
says t b line (s.Output xs) = refl
says t b line s.Leave = refl
says t b line s.Quit = refl

pub repeats : (t : machine.Top) (b : machine.Body) (line : ℕ) (h : LoopHead) → machine.step (machine.Inside t b) (line, loop_piece h) ≡ Some (machine.Inside t (machine.opened (machine.Looping b.here line (loop_act h)) b))
repeats t b line (l.Times x) = refl
repeats t b line (l.While x) = refl
repeats t b line (l.Count x from to step) = refl

pub ends : (t : machine.Top) (b : machine.Body) (line : ℕ) (end : End) → machine.step (machine.Inside t b) (end_placed line end) ≡ machine.go_on t (ended end b.here b.stack)
ends t b line e.Close = refl
ends t b line (e.CloseWhen at test) = refl
ends t b line (e.Case at test) = refl
ends t b line e.Otherwise = refl
ends t b line e.ChoiceEnd = refl

pub outside : (t : machine.Top) (b : machine.Body) (line : ℕ) (x : Outer) → machine.step (machine.Inside t b) (line, outer_piece x) ≡ None
outside t b line (o.Header h) = refl
outside t b line (o.Given e) = refl
outside t b line (o.Wanted e) = refl
outside t b line o.Begin = refl
outside t b line o.Then = refl
outside t b line (o.Uses x) = refl

-- ---- elsewhere

-- a form that may stand among statements stands nowhere else but behind `выбор`
abbrev pub Refused : Placed → Type 0
Refused f = (machine.step machine.Empty f ≡ None)
    × ((t : machine.Top) → machine.step (machine.AfterHeader t) f ≡ None)
    × ((t : machine.Top) → machine.step (machine.AfterGiven t) f ≡ None)
    × ((t : machine.Top) → machine.step (machine.AfterWanted t) f ≡ None)
    × ((t : machine.Top) (b : machine.Body) (m : ℕ) (c : Tree) → machine.step (machine.NeedsThen t b m c) f ≡ None)

refused : (line : ℕ) (x : Inner) → Refused (inner_placed line x)
refused line (i.Says (s.Declare d)) = (refl, λ t. refl, λ t. refl, λ t. refl, λ t b m c. refl)
refused line (i.Says (s.Assign to x)) = (refl, λ t. refl, λ t. refl, λ t. refl, λ t b m c. refl)
refused line (i.Says (s.Call x xs)) = (refl, λ t. refl, λ t. refl, λ t. refl, λ t b m c. refl)
refused line (i.Says (s.Assert x)) = (refl, λ t. refl, λ t. refl, λ t. refl, λ t b m c. refl)
refused line (i.Says (s.Input ts)) = (refl, λ t. refl, λ t. refl, λ t. refl, λ t b m c. refl)
refused line (i.Says (s.Output xs)) = (refl, λ t. refl, λ t. refl, λ t. refl, λ t b m c. refl)
refused line (i.Says s.Leave) = (refl, λ t. refl, λ t. refl, λ t. refl, λ t b m c. refl)
refused line (i.Says s.Quit) = (refl, λ t. refl, λ t. refl, λ t. refl, λ t b m c. refl)
refused line (i.Repeats (l.Times x)) = (refl, λ t. refl, λ t. refl, λ t. refl, λ t b m c. refl)
refused line (i.Repeats (l.While x)) = (refl, λ t. refl, λ t. refl, λ t. refl, λ t b m c. refl)
refused line (i.Repeats (l.Count x from to step)) = (refl, λ t. refl, λ t. refl, λ t. refl, λ t b m c. refl)
refused line i.Forever = (refl, λ t. refl, λ t. refl, λ t. refl, λ t b m c. refl)
refused line (i.Choose test) = (refl, λ t. refl, λ t. refl, λ t. refl, λ t b m c. refl)
refused line i.Select = (refl, λ t. refl, λ t. refl, λ t. refl, λ t b m c. refl)
refused line (i.Ends e.Close) = (refl, λ t. refl, λ t. refl, λ t. refl, λ t b m c. refl)
refused line (i.Ends (e.CloseWhen at test)) = (refl, λ t. refl, λ t. refl, λ t. refl, λ t b m c. refl)
refused line (i.Ends (e.Case at test)) = (refl, λ t. refl, λ t. refl, λ t. refl, λ t b m c. refl)
refused line (i.Ends e.Otherwise) = (refl, λ t. refl, λ t. refl, λ t. refl, λ t b m c. refl)
refused line (i.Ends e.ChoiceEnd) = (refl, λ t. refl, λ t. refl, λ t. refl, λ t b m c. refl)
refused line i.Finish = (refl, λ t. refl, λ t. refl, λ t. refl, λ t b m c. refl)

pub not_first : (line : ℕ) (x : Inner) → machine.step machine.Empty (inner_placed line x) ≡ None
not_first line x = (refused line x).0

pub not_behind_header : (t : machine.Top) (line : ℕ) (x : Inner) → machine.step (machine.AfterHeader t) (inner_placed line x) ≡ None
not_behind_header t line x = (refused line x).1 t

pub not_behind_given : (t : machine.Top) (line : ℕ) (x : Inner) → machine.step (machine.AfterGiven t) (inner_placed line x) ≡ None
not_behind_given t line x = (refused line x).2 t

pub not_behind_wanted : (t : machine.Top) (line : ℕ) (x : Inner) → machine.step (machine.AfterWanted t) (inner_placed line x) ≡ None
not_behind_wanted t line x = (refused line x).3 t

pub not_then : (t : machine.Top) (b : machine.Body) (m : ℕ) (c : Tree) (line : ℕ) (x : Inner) → machine.step (machine.NeedsThen t b m c) (inner_placed line x) ≡ None
not_then t b m c line x = (refused line x).4 t b m c

-- ---- behind `если`

abbrev pub then_or_none : machine.Top → machine.Body → ℕ → Tree → Bool → Option machine.State
then_or_none t b m c true = Some (machine.Inside t (machine.opened (machine.Chosen b.here m c) b))
then_or_none t b m c false = None

pub then_step : (t : machine.Top) (b : machine.Body) (m : ℕ) (c : Tree) (line : ℕ) (x : Role) → machine.step (machine.NeedsThen t b m c) (role_placed line x) ≡ then_or_none t b m c (is_then x)
then_step t b m c line (r.Inside x) = not_then t b m c line x
then_step t b m c line (r.Outside (o.Header h)) = refl
then_step t b m c line (r.Outside (o.Given e)) = refl
then_step t b m c line (r.Outside (o.Wanted e)) = refl
then_step t b m c line (r.Outside o.Begin) = refl
then_step t b m c line (r.Outside o.Then) = refl
then_step t b m c line (r.Outside (o.Uses x)) = refl

-- ---- behind `выбор`

pub says_no_case : (t : machine.Top) (b : machine.Body) (m line : ℕ) (x : Plain) → machine.step (machine.NeedsCase t b m) (line, plain_piece x) ≡ None
says_no_case t b m line (s.Declare d) = refl
says_no_case t b m line (s.Assign to x) = refl
says_no_case t b m line (s.Call x xs) = refl
says_no_case t b m line (s.Assert x) = refl
says_no_case t b m line (s.Input ts) = refl
says_no_case t b m line (s.Output xs) = refl
says_no_case t b m line s.Leave = refl
says_no_case t b m line s.Quit = refl

pub repeats_no_case : (t : machine.Top) (b : machine.Body) (m line : ℕ) (h : LoopHead) → machine.step (machine.NeedsCase t b m) (line, loop_piece h) ≡ None
repeats_no_case t b m line (l.Times x) = refl
repeats_no_case t b m line (l.While x) = refl
repeats_no_case t b m line (l.Count x from to step) = refl

pub outer_no_case : (t : machine.Top) (b : machine.Body) (m line : ℕ) (x : Outer) → machine.step (machine.NeedsCase t b m) (line, outer_piece x) ≡ None
outer_no_case t b m line (o.Header h) = refl
outer_no_case t b m line (o.Given e) = refl
outer_no_case t b m line (o.Wanted e) = refl
outer_no_case t b m line o.Begin = refl
outer_no_case t b m line o.Then = refl
outer_no_case t b m line (o.Uses x) = refl
