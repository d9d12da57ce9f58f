use Rattle.std.proofs.Common.{◌≡◌, map}
use Rattle.unit_grammar.specs.Reading.{placed_of, progress_of}
use Rattle.unit_grammar.specs.Progress.{read_all}
use Rattle.unit_grammar.proofs.structure.read_all.Given as goal

abbrev pub invariant-loop-placed : goal.invariant-loop-placed
invariant-loop-placed l = progress_of l.progress ≡ read_all (map placed_of l.yielded)
