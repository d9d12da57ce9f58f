use Rattle.std.proofs.Common.{◌≡◌, ◌+◌, ◌-◌, ◌++◌, ◌∙◌, length, take, drop, sym, ap}
use Rattle.std.specs.Arc.{arc_value}
use Rattle.std.proofs.lemmas.List.{take_rest, take-map, drop-map}
use Rattle.text_versions.specs.Texts.{are_short}
use Rattle.text_versions.specs.Chunks.{pieces_in, joined, lines_in}
use Rattle.text_versions.proofs.Patches.{patched}
use Rattle.text_versions.proofs.Shorts.{short_known, short_three}
use Rattle.text_versions.proofs.patch.are_short_after.Goals as goal

pub returns-then-known-most : goal.returns-then-known-most
returns-then-known-most c =
    let e = c.args.edit.now in
    c.are_short.ensures
    ∙ ap (are_short c.args.most) c.as_slice.ensures
    ∙ sym (short_known c.args.known c.args.most (e.from - 1) (e.from - 1 + e.count) (lines_in c.args.chunks.now) e.lines c.if-known-most.true c.requires.known)

pub returns : goal.returns
returns c =
    let r = c.args.patch.now.region in
    let chunks = c.args.chunks.now in
    let front : lines_in (take r.first chunks) ≡ joined (take r.first (pieces_in chunks)) = ap joined (sym (take-map arc_value r.first chunks)) in
    let back : lines_in (take (length chunks - r.last) (drop r.last chunks)) ≡ joined (drop r.last (pieces_in chunks)) = ap lines_in (take_rest chunks r.last) ∙ ap joined (sym (drop-map arc_value r.last chunks)) in
    let whole = patched (pieces_in chunks) c.args.edit.now c.args.patch.now c.requires.patch in
    let same = ap (λ l. lines_in (take r.first chunks) ++ (l ++ lines_in (take (length chunks - r.last) (drop r.last chunks)))) c.as_slice-2.ensures.value ∙ ap (λ l. l ++ (c.args.patch.now.lines.items ++ lines_in (take (length chunks - r.last) (drop r.last chunks)))) front ∙ ap (λ l. joined (take r.first (pieces_in chunks)) ++ (c.args.patch.now.lines.items ++ l)) back ∙ whole in
    c.all_are_short.ensures ∙ short_three c.args.most (lines_in (take r.first chunks)) c.as_slice-2.result.now (lines_in (take (length chunks - r.last) (drop r.last chunks))) _ same
