-- Edits of the chunks of a text.
use Rattle.std.specs.Prelude.{◌≡◌, true, length}
use Rattle.text_versions.specs.Texts.{ended_bytes, are_short, IsText}
use Rattle.text_versions.specs.Edits.{is_in_range, edited}
use Rattle.text_versions.specs.ChunkLists.{pieces_of, lines_of}
use Rattle.text_versions.specs.Patches.{IsPatch}
use Rattle.text_versions.specs.declared.edit.Edit.{Edit}
use Rattle.text_versions.specs.declared.chunk_list.ChunkList.{ChunkList}
use Rattle.text_versions.specs.declared.applied.Allowed.{Allowed}

-- the edit of these chunks makes a text, by that patch, and this is known of it
pub record IsAllowed (list : ChunkList) (e : Edit) (allowed : Allowed) : Type 0 where
  pub in_range : is_in_range (lines_of list) e ≡ true
  pub patch : IsPatch (pieces_of list) e allowed.patch
  pub count : allowed.count ≡ length (edited (lines_of list) e)
  pub bytes : allowed.bytes ≡ ended_bytes (edited (lines_of list) e)
  pub short : are_short allowed.characters (edited (lines_of list) e) ≡ true
  pub text : IsText (edited (lines_of list) e)
