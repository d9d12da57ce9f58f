-- The chunks of a text, and what is known of its lines.
use Rattle.std.specs.Prelude.{◌≡◌, ℕ, true, List, length}
use Rattle.text_versions.specs.Texts.{ended_bytes, are_short, IsText}
use Rattle.text_versions.specs.Chunks.{pieces_in, lines_in, AreChunks}
use Rattle.text_versions.specs.declared.chunk_list.ChunkList.{ChunkList}

-- the lines of each chunk
abbrev pub pieces_of : ChunkList → List (List (List ℕ))
pieces_of list = pieces_in list.chunks.items

-- the lines of the text
abbrev pub lines_of : ChunkList → List (List ℕ)
lines_of list = lines_in list.chunks.items

-- what holds of the chunks of each text
pub record IsChunkList (list : ChunkList) : Type 0 where
  pub chunks : AreChunks (pieces_of list)
  pub count : list.count ≡ length (lines_of list)
  pub bytes : list.bytes ≡ ended_bytes (lines_of list)
  pub short : are_short list.characters (lines_of list) ≡ true
  pub text : IsText (lines_of list)
