use Rattle.std.proofs.Common.{◌≡◌, drop}
use Rattle.text_versions.specs.Texts.{are_short}
use Rattle.text_versions.specs.Chunks.{lines_in}
use Rattle.text_versions.proofs.patch.chunks_are_short.Given as goal

abbrev pub invariant-loop-chunk : goal.invariant-loop-chunk
invariant-loop-chunk l = are_short l.characters (lines_in (drop l.chunk-index l.chunks)) ≡ are_short l.characters (lines_in l.chunks)
