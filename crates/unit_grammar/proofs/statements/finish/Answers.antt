use Rattle.unit_grammar.specs.Views.{stack_of}
use Rattle.unit_grammar.proofs.Acts.{finish_none}
use Rattle.unit_grammar.proofs.statements.finish.Goals as goal

-- src/states.rt:163:1
pub returns-in-None : goal.returns-in-None
returns-in-None c = finish_none c.args.line c.args.top c.args.body.here (stack_of c.args.body.stack) c.in-None.ensures
