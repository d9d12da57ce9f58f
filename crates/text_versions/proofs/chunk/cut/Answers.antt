use Rattle.std.proofs.Common.{◌≡◌, ◌-◌, ◌*◌, ◌/◌, ◌<◌, length, ap, arith}
use Rattle.text_versions.specs.Chunks.{pieces_in}
use Rattle.text_versions.proofs.Cutting.{cut_more}
use Rattle.text_versions.proofs.chunk.cut.Goals as goal

pub loop-lines-preserved : goal.loop-lines-preserved
loop-lines-preserved g c =
    let count : c.len-in-loop-lines.result ≡ length c.loop-lines.lines.items = omega arith in
    let many : 64 < length c.loop-lines.lines.items = omega arith in
    let more = cut_more c.args.lines.items c.loop-lines.lines.items (pieces_in c.loop-lines.chunks.items) c.args.made.now c.loop-lines.made ((c.len-in-loop-lines.result - 1) / 64 * 64) c.loop-lines.invariant many (ap (λ n. (n - 1) / 64 * 64) count) in
    rw (c.in_ok-last.ensures.items, c.in_ok-insert.ensures.items, c.in_ok-new.ensures.lines, c.from_vec.ensures, c.in_ok-last.ensures.tail, c.new.ensures.counted) more
