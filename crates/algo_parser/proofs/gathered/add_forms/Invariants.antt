use Rattle.std.proofs.Common.{◌≡◌, ◌++◌, map}
use Rattle.std.specs.List.{flat_map}
use Rattle.algo_parser.specs.Units.{form_at}
use Rattle.unit_grammar.specs.Reading.{placed_of}
use Rattle.algo_parser.specs.Hearing.{heard_of}
use Rattle.algo_parser.proofs.gathered.add_forms.Given as goal

abbrev pub invariant-loop-piece : goal.invariant-loop-piece
invariant-loop-piece l = map placed_of l.forms.items ≡ map placed_of l.fn.forms.items ++ flat_map (form_at l.line) (map heard_of l.yielded)
