use Rattle.algo_parser.proofs.Gathers.{joined_next, unknown_next}
use Rattle.algo_parser.proofs.gathered.add_uses_on.Goals as goal

pub loop-piece-preserved : goal.loop-piece-preserved
loop-piece-preserved c = record {
  performers = joined_next c.args.line c.args.performers.now _ _ c.args.pieces.now c.loop-piece.piece-index c.piece-item.result c.loop-piece-test.true c.piece-item.is c.loop-piece.invariant.performers c.in_ok-add_use.ensures.performers;
  unknown = unknown_next c.args.line c.args.unknown.now _ _ c.args.pieces.now c.loop-piece.piece-index c.piece-item.result c.loop-piece-test.true c.piece-item.is c.loop-piece.invariant.unknown c.in_ok-add_use.ensures.unknown;
}
