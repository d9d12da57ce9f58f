use Rattle.line_pieces.proofs.OneListOfPieces.{some_list, one_list}
use Rattle.line_pieces.proofs.laws.one_list_of_pieces.Goals as goal

pub returns-clause-some : goal.returns-clause-some
returns-clause-some c = some_list

pub returns-clause-only : goal.returns-clause-only
returns-clause-only c = one_list
