use Rattle.std.proofs.Common.{rules}
use Rattle.kumir_tree.specs.declared.statement.Case as case
use Rattle.unit_grammar.proofs.Acts.{arms_push}
use Rattle.unit_grammar.proofs.frames.with_case.Goals as goal

pub returns : goal.returns
returns c = rw c.in_ok-push.ensures.ok (arms_push c.args.cases _ c.args.line c.args.condition c.args.body (search (rules, case.the_lemmas)))
