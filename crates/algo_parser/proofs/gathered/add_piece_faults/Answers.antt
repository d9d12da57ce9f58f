use Rattle.algo_parser.specs.Units.{piece_fault}
use Rattle.algo_parser.proofs.Gathers.{added_next}
use Rattle.algo_parser.proofs.gathered.add_piece_faults.Goals as goal

pub loop-piece-preserved : goal.loop-piece-preserved
loop-piece-preserved c = added_next (piece_fault c.args.line) c.args.faults.now _ _ c.args.pieces.now c.loop-piece.piece-index c.piece-item.result c.loop-piece-test.true c.piece-item.is c.loop-piece.invariant c.in_ok-add_piece_fault.ensures
