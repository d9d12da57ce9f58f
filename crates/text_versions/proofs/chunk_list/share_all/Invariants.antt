use Rattle.std.proofs.Common.{◌≡◌, take}
use Rattle.text_versions.specs.Chunks.{pieces_in}
use Rattle.text_versions.proofs.chunk_list.share_all.Given as goal

abbrev pub invariant-loop-chunk : goal.invariant-loop-chunk
invariant-loop-chunk l = pieces_in l.shared.items ≡ take l.chunk-index (pieces_in l.chunks)
