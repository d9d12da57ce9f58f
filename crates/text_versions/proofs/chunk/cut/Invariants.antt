use Rattle.std.proofs.Common.{length}
use Rattle.text_versions.specs.Chunks.{pieces_in}
use Rattle.text_versions.proofs.Cutting.{AreCutSoFar}
use Rattle.text_versions.proofs.chunk.cut.Given as goal

abbrev pub invariant-loop-lines : goal.invariant-loop-lines
invariant-loop-lines g l = AreCutSoFar l.fn.lines.items l.lines.items (pieces_in l.chunks.items) l.fn.made l.made

abbrev pub decreases-loop-lines : goal.decreases-loop-lines
decreases-loop-lines g l = length l.lines.items
