use Rattle.std.proofs.Common.{◌+◌, arith}
use Rattle.text_versions.proofs.Pieces.{lines_with, lines_within}
use Rattle.text_versions.proofs.region.place_of.Goals as goal

pub overflow_add-next : goal.overflow_add-next
overflow_add-next c =
    let up = lines_with c.args.chunks.now c.loop-chunk.chunk c.count_at.result (omega arith) c.count_at.ensures.count in
    omega (arith, up, lines_within c.args.chunks.now (c.loop-chunk.chunk + 1))

pub loop-chunk-preserved : goal.loop-chunk-preserved
loop-chunk-preserved c =
    let up = lines_with c.args.chunks.now c.loop-chunk.chunk c.count_at.result (omega arith) c.count_at.ensures.count in
    (omega (arith, up), omega arith, omega arith)
