use Rattle.line_pieces.proofs.Firsts.{decided}
use Rattle.line_pieces.proofs.spans.begins_unit.Goals as goal

pub returns : goal.returns
returns c = decided c.one_cutting.ensures.only c.args.line.now _ c.in_ok-found.found.tokens c.as_slice.result.now c.in_ok-found.found.fault c.is_algorithm_word.result c.as_str.ensures.characters c.as_slice.ensures c.in_ok-found.ensures c.is_algorithm_word.ensures
