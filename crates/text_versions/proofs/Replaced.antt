-- Chunks in the place of others.
use Rattle.std.proofs.Common.{◌≡◌, ℕ, List, ◌++◌, length, take, drop, map, sym, ap, ◌∙◌, subst}
use Rattle.std.specs.List.{splice}
use Rattle.std.specs.Arc.{arc_value}
use Rattle.std.specs.declared.sync.Arc.{Arc}
use Rattle.std.proofs.lemmas.List.{map-append, take-map, drop-map}
use Rattle.text_versions.specs.Texts.{ended_bytes, are_short, IsText}
use Rattle.text_versions.specs.Chunks.{pieces_in, joined, AreChunks}
use Rattle.text_versions.specs.Cuts.{AreCut}
use Rattle.text_versions.specs.Edits.{edited}
use Rattle.text_versions.specs.Patches.{IsPatch}
use Rattle.text_versions.specs.ChunkLists.{pieces_of, lines_of, IsChunkList}
use Rattle.text_versions.specs.Applied.{IsAllowed}
use Rattle.text_versions.specs.declared.edit.Edit.{Edit}
use Rattle.text_versions.specs.declared.patch.Patch.{Patch}
use Rattle.text_versions.specs.declared.chunk_list.ChunkList.{ChunkList}
use Rattle.text_versions.specs.declared.applied.Allowed.{Allowed}
use Rattle.text_versions.proofs.Pieces.{joined-append}
use Rattle.text_versions.proofs.Patches.{patched}
use Rattle.text_versions.proofs.Joins.{spliced_chunks}

pub spliced_pieces : {Z : Type 0} (chunks others new : List (Arc (List (List ℕ)) Z)) (i j : ℕ) → new ≡ splice chunks i j others → pieces_in new ≡ splice (pieces_in chunks) i j (pieces_in others)
spliced_pieces chunks others new i j e =
    ap pieces_in e
    ∙ map-append arc_value (take i chunks) (others ++ drop j chunks)
    ∙ ap (λ l. map arc_value (take i chunks) ++ l) (map-append arc_value others (drop j chunks))
    ∙ ap (λ l. l ++ (pieces_in others ++ map arc_value (drop j chunks))) (sym (take-map arc_value i chunks))
    ∙ ap (λ l. take i (pieces_in chunks) ++ (pieces_in others ++ l)) (sym (drop-map arc_value j chunks))

-- the lines of the patch in the place of its region
pub spliced_lines : (ps ms : List (List (List ℕ))) (e : Edit) (patch : Patch) → IsPatch ps e patch → joined ms ≡ patch.lines.items → joined (splice ps patch.region.first patch.region.last ms) ≡ edited (joined ps) e
spliced_lines ps ms e patch is same =
    joined-append (take patch.region.first ps) (ms ++ drop patch.region.last ps)
    ∙ ap (λ l. joined (take patch.region.first ps) ++ l) (joined-append ms (drop patch.region.last ps))
    ∙ ap (λ l. joined (take patch.region.first ps) ++ (l ++ joined (drop patch.region.last ps))) same
    ∙ patched ps e patch is

-- the chunks of the edited text
pub put_list : (old new : ChunkList) (ms : List (List (List ℕ))) (e : Edit) (allowed : Allowed) → IsChunkList old → IsAllowed old e allowed → AreCut ms (length allowed.patch.lines.items) → lines_of new ≡ edited (lines_of old) e → pieces_of new ≡ splice (pieces_of old) allowed.patch.region.first allowed.patch.region.last ms → new.count ≡ allowed.count → new.bytes ≡ allowed.bytes → new.characters ≡ allowed.characters → IsChunkList new
put_list old new ms e allowed was is cut lines pieces count bytes characters = record {
  chunks = subst AreChunks (sym pieces) (spliced_chunks (pieces_of old) ms allowed.patch.region (length allowed.patch.lines.items) was.chunks is.patch.region.order is.patch.region.within cut is.patch.left is.patch.right);
  count = count ∙ is.count ∙ ap length (sym lines);
  bytes = bytes ∙ is.bytes ∙ ap ended_bytes (sym lines);
  short = ap (λ n. are_short n (lines_of new)) characters ∙ ap (are_short allowed.characters) lines ∙ is.short;
  text = subst IsText (sym lines) is.text;
}
