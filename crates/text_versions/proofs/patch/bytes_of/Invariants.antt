use Rattle.std.proofs.Common.{◌≡◌, take}
use Rattle.text_versions.specs.Texts.{ended_bytes}
use Rattle.text_versions.specs.Chunks.{lines_in}
use Rattle.text_versions.proofs.patch.bytes_of.Given as goal

abbrev pub invariant-loop-chunk : goal.invariant-loop-chunk
invariant-loop-chunk l = l.bytes ≡ ended_bytes (lines_in (take l.chunk-index l.chunks))
