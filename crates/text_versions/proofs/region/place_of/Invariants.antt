use Rattle.std.proofs.Common.{◌≡◌, ◌≤◌, length, take}
use Rattle.text_versions.specs.Chunks.{joined, pieces_in}
use Rattle.text_versions.proofs.region.place_of.Given as goal

abbrev pub invariant-loop-chunk : goal.invariant-loop-chunk
invariant-loop-chunk l = (l.start ≡ length (joined (take l.chunk (pieces_in l.chunks)))) × (l.start ≤ l.line) × (l.chunk ≤ length l.chunks)
