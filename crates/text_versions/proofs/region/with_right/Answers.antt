use Rattle.std.proofs.Common.{◌+◌, ap, arith}
use Rattle.text_versions.specs.Chunks.{pieces_in}
use Rattle.text_versions.specs.Cuts.{rest_of}
use Rattle.text_versions.proofs.Pieces.{lines_within}
use Rattle.text_versions.proofs.Regions.{right_fits}
use Rattle.text_versions.proofs.region.with_right.Goals as goal

pub overflow_add-result-2 : goal.overflow_add-result-2
overflow_add-result-2 c =
    let end = c.requires.region.end_is in
    let up = lines_within c.args.chunks.now c.args.region.last in
    omega arith

pub returns-clause-right : goal.returns-clause-right
returns-clause-right c =
    let same = ap (λ k. rest_of (k + c.args.added)) c.kept_count.ensures in
    right_fits (pieces_in c.args.chunks.now) c.args.from c.args.to c.count_at-lines.result c.args.added c.args.region c.requires.chunks c.requires.region c.count_at-lines.ensures.some c.count_at-lines.ensures.count (omega arith)
