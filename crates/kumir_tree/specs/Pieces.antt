-- A form as plain data.
use Rattle.kumir_tree.specs.Piece.{Piece}
use Rattle.kumir_tree.specs.Piece as p
use Rattle.kumir_tree.specs.Seen.{tree, trees, some_tree}
use Rattle.kumir_tree.specs.Parts.{place_of, places_of, all_shown, declares_of, head_of}
use Rattle.kumir_tree.specs.declared.form.Form.{Form}
use Rattle.kumir_tree.specs.declared.form.Form.TheVariants as f

abbrev pub piece_of : Form → Piece
piece_of (f.Header h) = p.Header (head_of h)
piece_of (f.Given e) = p.Given (some_tree e)
piece_of (f.Wanted e) = p.Wanted (some_tree e)
piece_of (f.Declare d) = p.Declare (declares_of d)
piece_of (f.Assign t e) = p.Assign (place_of t) (tree e)
piece_of (f.Call x es) = p.Invoke x (trees es)
piece_of (f.Times e) = p.Times (tree e)
piece_of (f.While e) = p.While (tree e)
piece_of f.Forever = p.Forever
piece_of (f.Count x from to step) = p.Count x (tree from) (tree to) (some_tree step)
piece_of f.Close = p.Close
piece_of (f.CloseWhen e) = p.CloseWhen (tree e)
piece_of (f.Choose e) = p.Choose (tree e)
piece_of f.Then = p.Then
piece_of f.Otherwise = p.Otherwise
piece_of f.ChoiceEnd = p.ChoiceEnd
piece_of f.Select = p.Select
piece_of (f.When e) = p.When (tree e)
piece_of f.Begin = p.Begin
piece_of f.Finish = p.Finish
piece_of (f.Assert e) = p.Assert (tree e)
piece_of f.Leave = p.Leave
piece_of f.Quit = p.Quit
piece_of (f.Uses x) = p.Uses x
piece_of (f.Input ts) = p.Input (places_of ts)
piece_of (f.Output is) = p.Output (all_shown is)
