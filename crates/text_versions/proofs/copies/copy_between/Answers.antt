use Rattle.std.proofs.Common.{◌+◌, ◌++◌, ◌∙◌, drop, sym, ap, arith}
use Rattle.std.specs.Prelude.{slice_range}
use Rattle.text_versions.specs.Chunks.{lines_in}
use Rattle.text_versions.proofs.Pieces.{lines_from}
use Rattle.text_versions.proofs.Slices.{one_more}
use Rattle.text_versions.proofs.copies.copy_between.Goals as goal

pub loop-chunk-preserved : goal.loop-chunk-preserved
loop-chunk-preserved c =
    let lines = c.lines-lines.result.now in
    let rest = lines_in (drop (c.loop-chunk.chunk-index + 1) c.args.chunks.now) in
    let step = lines_from c.args.chunks.now c.loop-chunk.chunk-index c.chunk-item.result lines (omega arith) c.chunk-item.is (c.lines-lines.ensures.shown ∙ c.deref.ensures) in
    let more = one_more c.loop-chunk.out.items lines rest _ c.loop-chunk.from c.loop-chunk.to c.loop-chunk.invariant.0 (ap (λ l. c.loop-chunk.out.items ++ slice_range l c.loop-chunk.from c.loop-chunk.to) (sym step) ∙ c.loop-chunk.invariant.1) in
    (omega arith, rw (c.in_ok-copy_lines.ensures, c.min-begin.ensures, c.min-end.ensures) more)
