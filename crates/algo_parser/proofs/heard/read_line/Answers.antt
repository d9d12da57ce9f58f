use Rattle.std.proofs.Common.{map}
use Rattle.algo_parser.specs.Hearing.{heard_of}
use Rattle.algo_parser.proofs.Lengths.{cut_fewer}
use Rattle.algo_parser.proofs.Hears.{shown_pieces, says_line}
use Rattle.algo_parser.proofs.heard.read_line.Goals as goal

pub cut_pieces-requires : goal.cut_pieces-requires
cut_pieces-requires c = cut_fewer c.args.line.now _ c.in_ok-found.found.tokens c.in_ok-found.found.fault c.requires c.as_str.ensures.characters c.in_ok-found.ensures

pub hear_all-requires : goal.hear_all-requires
hear_all-requires c = shown_pieces c.in_ok-found.found.tokens _ c.in_ok-pieces.pieces _ c.as_slice.ensures c.as_slice-2.ensures c.in_ok-pieces.ensures

pub returns : goal.returns
returns c = says_line c.args.line.now _ c.in_ok-found.found.tokens _ c.in_ok-found.found.fault c.in_ok-pieces.pieces _ (map heard_of c.in_ok-heard.heard.items) c.as_str.ensures.characters c.as_slice.ensures c.as_slice-2.ensures c.in_ok-found.ensures c.in_ok-pieces.ensures c.in_ok-heard.ensures
