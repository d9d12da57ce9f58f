use Rattle.std.proofs.Common.{◌≡◌, ◌+◌, length, drop}
use Rattle.std.specs.Prelude.{slice_get}
use Rattle.text_versions.specs.Chunks.{lines_in}
use Rattle.text_versions.proofs.chunk_list.line_at.Given as goal

abbrev pub invariant-loop-chunk : goal.invariant-loop-chunk
invariant-loop-chunk l = (slice_get (lines_in (drop l.chunk-index l.chunks)) l.at ≡ slice_get (lines_in l.chunks) l.fn.at) × (length (lines_in (drop l.chunk-index l.chunks)) + l.fn.at ≡ length (lines_in l.chunks) + l.at)
