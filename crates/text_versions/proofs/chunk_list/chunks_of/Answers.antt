use Rattle.std.proofs.lemmas.Result.{IfOk-weaker}
use Rattle.text_versions.specs.Chunks.{pieces_in}
use Rattle.text_versions.proofs.Joins.{cut_chunks}
use Rattle.text_versions.proofs.chunk_list.chunks_of.Goals as goal

pub returns-clause-chunks : goal.returns-clause-chunks
returns-clause-chunks c = IfOk-weaker c.cut.result _ _ (λ chunks are. cut_chunks (pieces_in chunks.items) _ are) c.cut.ensures.pieces
