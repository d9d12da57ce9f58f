use Rattle.std.proofs.Common.{arith}
use Rattle.text_versions.specs.Chunks.{pieces_in}
use Rattle.text_versions.proofs.Regions.{begin_near}
use Rattle.text_versions.proofs.region.touched.Goals as goal

pub returns-clause-few : goal.returns-clause-few
returns-clause-few c =
    let near = begin_near (pieces_in c.args.chunks.now) c.args.from c.place_of-begin.result c.requires.chunks c.place_of-begin.ensures.place (omega (arith, c.requires.order, c.requires.within)) in
    omega arith
