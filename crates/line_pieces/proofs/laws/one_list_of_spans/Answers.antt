use Rattle.line_pieces.proofs.OneListOfSpans.{some_list, one_list}
use Rattle.line_pieces.proofs.laws.one_list_of_spans.Goals as goal

pub returns-clause-some : goal.returns-clause-some
returns-clause-some c = some_list c.one_cutting.ensures.some c.one_cutting.ensures.only

pub returns-clause-only : goal.returns-clause-only
returns-clause-only c = one_list
