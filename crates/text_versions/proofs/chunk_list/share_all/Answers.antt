use Rattle.std.proofs.Common.{arith}
use Rattle.text_versions.proofs.Pieces.{shared_more}
use Rattle.text_versions.proofs.chunk_list.share_all.Goals as goal

pub loop-chunk-preserved : goal.loop-chunk-preserved
loop-chunk-preserved c =
    let more = shared_more c.args.chunks.now c.loop-chunk.shared.items c.loop-chunk.chunk-index c.chunk-item.result c.in_ok-try_clone.field-0 (omega arith) c.chunk-item.is c.in_ok-try_clone.ensures c.loop-chunk.invariant in
    rw c.in_ok-push.ensures.items more
