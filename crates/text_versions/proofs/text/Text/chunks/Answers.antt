use Rattle.std.proofs.Common.{length, ap, arith}
use Rattle.text_versions.specs.ChunkLists.{pieces_of}
use Rattle.text_versions.proofs.Pieces.{few_chunks, count_of_pieces}
use Rattle.text_versions.proofs.text.Text.chunks.Goals as goal

pub returns-clause-few : goal.returns-clause-few
returns-clause-few c =
    let few = few_chunks (pieces_of c.self.inside.list) c.self.invariant.chunks in
    let count = count_of_pieces c.self.inside.list.chunks.items in
    let same = ap length c.as_slice.ensures.value in
    let view = ap length c.self.view_is in
    omega arith
