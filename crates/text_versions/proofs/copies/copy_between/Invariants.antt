use Rattle.std.proofs.Common.{◌≡◌, ◌++◌, ◌≤◌, drop}
use Rattle.std.specs.Prelude.{slice_range}
use Rattle.text_versions.specs.Chunks.{lines_in}
use Rattle.text_versions.proofs.copies.copy_between.Given as goal

abbrev pub invariant-loop-chunk : goal.invariant-loop-chunk
invariant-loop-chunk l = (l.from ≤ l.to) × (l.out.items ++ slice_range (lines_in (drop l.chunk-index l.chunks)) l.from l.to ≡ l.fn.out.items ++ slice_range (lines_in l.chunks) l.fn.from l.fn.to)
