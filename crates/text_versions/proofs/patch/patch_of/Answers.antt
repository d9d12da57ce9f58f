use Rattle.std.proofs.Common.{◌+◌, ◌-◌, ◌++◌, ◌∙◌, ap, subst}
use Rattle.text_versions.specs.Chunks.{pieces_in, joined}
use Rattle.text_versions.specs.Cuts.{kept_count, FitsLeft, FitsRight}
use Rattle.text_versions.specs.Patches.{region_lines}
use Rattle.text_versions.proofs.Patches.{pieces_between, copied, is_patch}
use Rattle.text_versions.proofs.patch.patch_of.Goals as goal

pub returns : goal.returns
returns c =
    let r = c.region_of-region.result in
    let e = c.args.edit.now in
    let same = ap joined (pieces_between c.args.chunks.now r.first r.last) in
    let lines = copied _ (region_lines (pieces_in c.args.chunks.now) r) c.in_ok-lines.lines.items c.copy_between.new.out.items c.copy_lines.new.out.items c.copy_between-2.new.out.items e.lines (e.from - 1 - r.start) (e.from - 1 + e.count - r.start) (r.end - r.start) same c.in_ok-lines.ensures.items c.in_ok-copy_between.ensures (c.in_ok-copy_lines.ensures ∙ ap (λ l. c.copy_between.new.out.items ++ l) c.as_slice.ensures) c.in_ok-copy_between-2.ensures in
    let kept = kept_count (e.from - 1) (e.from - 1 + e.count) r in
    let left = subst (λ n. FitsLeft (pieces_in c.args.chunks.now) r (kept + n)) c.len.ensures c.region_of-region.ensures.left in
    let right = subst (λ n. FitsRight (pieces_in c.args.chunks.now) r (kept + n)) c.len.ensures c.region_of-region.ensures.right in
    is_patch (pieces_in c.args.chunks.now) e record { region = r; lines = c.copy_between-2.new.out } c.region_of-region.ensures.region c.region_of-region.ensures.few left right lines
