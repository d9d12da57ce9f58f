use Rattle.std.proofs.Common.{◌+◌, ◌-◌, ◌∙◌, length, length-append, drop, sym, ap, refl, arith}
use Rattle.std.specs.Prelude.{slice_get}
use Rattle.std.proofs.lemmas.Option.{slice_get_read}
use Rattle.text_versions.specs.Chunks.{lines_in}
use Rattle.text_versions.proofs.Pieces.{lines_from}
use Rattle.text_versions.proofs.Slices.{get_left, get_right}
use Rattle.text_versions.proofs.chunk_list.line_at.Goals as goal

pub returns-then-at-lines : goal.returns-then-at-lines
returns-then-at-lines c =
    let lines = c.lines-lines.result.now in
    let rest = lines_in (drop (c.loop-chunk.chunk-index + 1) c.args.chunks.now) in
    let step = lines_from c.args.chunks.now c.loop-chunk.chunk-index c.chunk-item.result lines (omega arith) c.chunk-item.is (c.lines-lines.ensures.shown ∙ c.deref.ensures) in
    sym c.loop-chunk.invariant.0 ∙ ap (λ l. slice_get l c.loop-chunk.at) step ∙ get_left lines rest c.loop-chunk.at c.if-at-lines.true ∙ slice_get_read lines (length lines) c.loop-chunk.at c.index-lines-at.result refl c.if-at-lines.true c.index-lines-at.is

pub loop-chunk-preserved : goal.loop-chunk-preserved
loop-chunk-preserved c =
    let lines = c.lines-lines.result.now in
    let rest = lines_in (drop (c.loop-chunk.chunk-index + 1) c.args.chunks.now) in
    let step = lines_from c.args.chunks.now c.loop-chunk.chunk-index c.chunk-item.result lines (omega arith) c.chunk-item.is (c.lines-lines.ensures.shown ∙ c.deref.ensures) in
    let far = c.loop-chunk.invariant in
    (sym (get_right lines rest c.loop-chunk.at (c.loop-chunk.at - length lines) (omega arith)) ∙ ap (λ l. slice_get l c.loop-chunk.at) (sym step) ∙ far.0, omega (arith, far.1, ap length step, length-append lines rest))
