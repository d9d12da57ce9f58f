use Rattle.std.proofs.Common.{◌∙◌}
use Rattle.unit_grammar.specs.Views.{state_of}
use Rattle.unit_grammar.proofs.Reached.{reached_deep, reached_open}
use Rattle.unit_grammar.proofs.structure.reached.Goals as goal

pub returns-then-is_deep : goal.returns-then-is_deep
returns-then-is_deep c = c.too_deep.ensures ∙ reached_deep c.is_deep.result (state_of c.args.state) c.args.line c.is_deep.ensures c.if-is_deep.true

pub returns-else-is_deep : goal.returns-else-is_deep
returns-else-is_deep c = reached_open c.is_deep.result (state_of c.args.state) c.args.line c.is_deep.ensures c.if-is_deep.false
