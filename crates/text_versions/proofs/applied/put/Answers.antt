use Rattle.std.proofs.Common.{◌≡◌, ◌∙◌, length, ap, refl, subst, arith}
use Rattle.std.specs.Prelude.{vec_len}
use Rattle.text_versions.specs.Chunks.{pieces_in, joined}
use Rattle.text_versions.specs.Cuts.{AreCut}
use Rattle.text_versions.specs.ChunkLists.{pieces_of}
use Rattle.text_versions.proofs.Replaced.{spliced_pieces, spliced_lines, put_list}
use Rattle.text_versions.proofs.applied.put.Goals as goal

pub returns-clause-list : goal.returns-clause-list
returns-clause-list g c =
    let old = c.args.list.now in
    let allowed = c.args.allowed in
    let made = pieces_in c.in_ok-chunks.chunks.items in
    let pieces = spliced_pieces old.chunks.items c.in_ok-chunks.chunks.items c.replace.new.chunks.items allowed.patch.region.first allowed.patch.region.last c.in_ok-replace.ensures.replaced in
    let lines = ap joined pieces ∙ spliced_lines (pieces_of old) made c.args.edit.now allowed.patch c.requires.allowed.patch c.in_ok-chunks.ensures.lines in
    let count : vec_len allowed.patch.lines ≡ length allowed.patch.lines.items = omega arith in
    put_list old _ made c.args.edit.now allowed c.requires.list c.requires.allowed (subst (AreCut made) count c.in_ok-chunks.ensures.pieces) lines pieces refl refl refl

pub returns-clause-edited : goal.returns-clause-edited
returns-clause-edited g c =
    let old = c.args.list.now in
    let allowed = c.args.allowed in
    let made = pieces_in c.in_ok-chunks.chunks.items in
    let pieces = spliced_pieces old.chunks.items c.in_ok-chunks.chunks.items c.replace.new.chunks.items allowed.patch.region.first allowed.patch.region.last c.in_ok-replace.ensures.replaced in
    ap joined pieces ∙ spliced_lines (pieces_of old) made c.args.edit.now allowed.patch c.requires.allowed.patch c.in_ok-chunks.ensures.lines
