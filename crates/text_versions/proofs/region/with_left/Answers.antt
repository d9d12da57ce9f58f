use Rattle.std.proofs.Common.{arith}
use Rattle.text_versions.specs.Chunks.{pieces_in}
use Rattle.text_versions.proofs.Regions.{left_region, left_fits, count_before}
use Rattle.text_versions.proofs.region.with_left.Goals as goal

pub overflow_sub-result : goal.overflow_sub-result
overflow_sub-result c =
    let start = count_before (pieces_in c.args.chunks.now) c.args.from c.args.to c.count_at-lines.result c.args.region c.requires.region (omega arith) c.count_at-lines.ensures.count in
    omega arith

pub returns-clause-region : goal.returns-clause-region
returns-clause-region c = left_region (pieces_in c.args.chunks.now) c.args.from c.args.to c.count_at-lines.result c.args.region c.requires.region (omega arith) c.count_at-lines.ensures.count

pub returns-clause-left : goal.returns-clause-left
returns-clause-left c = left_fits (pieces_in c.args.chunks.now) c.args.from c.args.to c.count_at-lines.result c.args.added c.args.region c.requires.chunks c.requires.region (omega arith) c.count_at-lines.ensures.count
