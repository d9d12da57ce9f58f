-- Forms by what becomes of them, as plain data.
use Rattle.std.specs.Prelude.{ℕ, Bool, true, false, [], Option, Some, None}
use Rattle.kumir_tree.specs.Piece as p
use Rattle.kumir_tree.specs.Piece.{Piece}
use Rattle.kumir_tree.specs.Program.{Act, Declare, Assign, Invoke, Assert, Input, Output, Leave, Quit}
use Rattle.kumir_tree.specs.Seen.{tree, trees, some_tree}
use Rattle.kumir_tree.specs.Parts.{place_of, places_of, all_shown, declares_of, head_of}
use Rattle.kumir_tree.specs.Tree.{Tree}
use Rattle.unit_grammar.specs.Grammar.{Placed}
use Rattle.unit_grammar.specs.Machine as m
use Rattle.unit_grammar.specs.declared.frames.LoopHead.{LoopHead}
use Rattle.unit_grammar.specs.declared.frames.LoopHead.TheVariants as l
use Rattle.unit_grammar.specs.declared.frames.End.{End}
use Rattle.unit_grammar.specs.declared.frames.End.TheVariants as e
use Rattle.unit_grammar.specs.declared.roles.Plain.{Plain}
use Rattle.unit_grammar.specs.declared.roles.Plain.TheVariants as s
use Rattle.unit_grammar.specs.declared.roles.Inner.{Inner}
use Rattle.unit_grammar.specs.declared.roles.Inner.TheVariants as i
use Rattle.unit_grammar.specs.declared.roles.Outer.{Outer}
use Rattle.unit_grammar.specs.declared.roles.Outer.TheVariants as o
use Rattle.unit_grammar.specs.declared.roles.Role.{Role}
use Rattle.unit_grammar.specs.declared.roles.Role.TheVariants as r

abbrev pub plain_piece : Plain → Piece
plain_piece (s.Declare d) = p.Declare (declares_of d)
plain_piece (s.Assign t e) = p.Assign (place_of t) (tree e)
plain_piece (s.Call x es) = p.Invoke x (trees es)
plain_piece (s.Assert e) = p.Assert (tree e)
plain_piece (s.Input ts) = p.Input (places_of ts)
plain_piece (s.Output xs) = p.Output (all_shown xs)
plain_piece s.Leave = p.Leave
plain_piece s.Quit = p.Quit

abbrev pub plain_act : Plain → Act
plain_act (s.Declare d) = Declare (declares_of d)
plain_act (s.Assign t e) = Assign (place_of t) (tree e)
plain_act (s.Call x es) = Invoke x (trees es)
plain_act (s.Assert e) = Assert (tree e)
plain_act (s.Input ts) = Input (places_of ts)
plain_act (s.Output xs) = Output (all_shown xs)
plain_act s.Leave = Leave
plain_act s.Quit = Quit

abbrev pub loop_piece : LoopHead → Piece
loop_piece (l.Times e) = p.Times (tree e)
loop_piece (l.While e) = p.While (tree e)
loop_piece (l.Count x from to step) = p.Count x (tree from) (tree to) (some_tree step)

-- a form with its line: an end that has one keeps it
abbrev pub end_placed : ℕ → End → Placed
end_placed line e.Close = (line, p.Close)
end_placed line (e.CloseWhen at test) = (at, p.CloseWhen (tree test))
end_placed line (e.Case at test) = (at, p.When (tree test))
end_placed line e.Otherwise = (line, p.Otherwise)
end_placed line e.ChoiceEnd = (line, p.ChoiceEnd)

abbrev pub inner_placed : ℕ → Inner → Placed
inner_placed line (i.Says plain) = (line, plain_piece plain)
inner_placed line (i.Repeats head) = (line, loop_piece head)
inner_placed line i.Forever = (line, p.Forever)
inner_placed line (i.Choose test) = (line, p.Choose (tree test))
inner_placed line i.Select = (line, p.Select)
inner_placed line (i.Ends end) = end_placed line end
inner_placed line i.Finish = (line, p.Finish)

abbrev pub outer_piece : Outer → Piece
outer_piece (o.Header h) = p.Header (head_of h)
outer_piece (o.Given e) = p.Given (some_tree e)
outer_piece (o.Wanted e) = p.Wanted (some_tree e)
outer_piece o.Begin = p.Begin
outer_piece o.Then = p.Then
outer_piece (o.Uses x) = p.Uses x

abbrev pub role_placed : ℕ → Role → Placed
role_placed line (r.Inside inner) = inner_placed line inner
role_placed line (r.Outside outer) = (line, outer_piece outer)

abbrev pub then_alone : Outer → Bool
then_alone (o.Header h) = false
then_alone (o.Given e) = false
then_alone (o.Wanted e) = false
then_alone o.Begin = false
then_alone o.Then = true
then_alone (o.Uses x) = false

abbrev pub is_then : Role → Bool
is_then (r.Inside inner) = false
is_then (r.Outside outer) = then_alone outer

-- the state behind the first case of a choice, if there is one
abbrev pub first_case : m.Top → m.Body → ℕ → Option (ℕ × Tree) → Option m.State
first_case t b line None = None
first_case t b line (Some c) = Some (m.Inside t (m.opened (m.Cased b.here line [] c.0 c.1) b))
