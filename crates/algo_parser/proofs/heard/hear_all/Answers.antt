use Rattle.algo_parser.proofs.Hears.{inside_get, within_get, hears_get}
use Rattle.algo_parser.proofs.heard.hear_all.Goals as goal

pub hear_piece-requires-clause-some : goal.hear_piece-requires-clause-some
hear_piece-requires-clause-some c = let p = inside_get c.args.tokens.now c.args.pieces.now c.loop-piece.piece-index (record { from = 0; to = 0 }) c.requires c.loop-piece-test.true in p.some

pub hear_piece-requires-clause-inside : goal.hear_piece-requires-clause-inside
hear_piece-requires-clause-inside c = within_get c.args.tokens.now c.args.pieces.now c.loop-piece.piece-index (record { from = 0; to = 0 }) c.requires c.loop-piece-test.true

pub loop-piece-preserved : goal.loop-piece-preserved
loop-piece-preserved c = hears_get c.args.tokens.now c.args.pieces.now c.loop-piece.piece-index (record { from = 0; to = 0 }) c.loop-piece.all.items _ c.in_ok-heard.heard c.loop-piece-test.true c.loop-piece.invariant c.in_ok-heard.ensures c.in_ok-add_heard.ensures
