-- How far the forms of a unit are read, and what they make, as plain data.
use Rattle.std.specs.Prelude.{Bool, true, false, [], ◌∷◌}
use Rattle.kumir_tree.specs.Piece as form
use Rattle.kumir_tree.specs.Piece.{Piece}
use Rattle.kumir_tree.specs.Pieces.{piece_of}
use Rattle.kumir_tree.specs.Unit.{Ending, Grown, Faulty}
use Rattle.kumir_tree.specs.Units.{algorithm_of}
use Rattle.unit_grammar.specs.Grammar.{Placed}
use Rattle.unit_grammar.specs.Progress as reading
use Rattle.unit_grammar.specs.Views.{state_of}
use Rattle.unit_grammar.specs.declared.placed.PlacedForm.{PlacedForm}
use Rattle.unit_grammar.specs.declared.structure.Progress.{Progress}
use Rattle.unit_grammar.specs.declared.structure.Progress.TheVariants as p
use Rattle.unit_grammar.specs.declared.structure.Structure.{Structure}
use Rattle.unit_grammar.specs.declared.structure.Structure.TheVariants as s

-- a form with its line
abbrev pub placed_of : PlacedForm → Placed
placed_of p = (p.line, piece_of p.form)

abbrev pub progress_of : Progress → reading.Progress
progress_of (p.Going s last) = reading.Going (state_of s) last
progress_of (p.Stopped fault) = reading.Stopped fault

abbrev pub structure_ending : Structure → Ending
structure_ending (s.Tree tree) = Grown (algorithm_of tree)
structure_ending (s.Fault fault) = Faulty (fault ∷ [])

abbrev pub is_use : Piece → Bool
is_use (form.Uses x) = true
is_use other = false
