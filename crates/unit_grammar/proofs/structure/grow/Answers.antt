use Rattle.std.proofs.Common.{map}
use Rattle.unit_grammar.specs.Reading.{placed_of}
use Rattle.unit_grammar.proofs.Reached.{grown}
use Rattle.unit_grammar.proofs.structure.grow.Goals as goal

pub returns : goal.returns
returns c = grown (map placed_of c.args.forms.items) _ _ c.requires c.in_ok-read_all.ensures c.finish.ensures
