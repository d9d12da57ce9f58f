use Rattle.std.proofs.Common.{ap, arith}
use Rattle.text_versions.specs.Texts.{ended_bytes}
use Rattle.text_versions.specs.Chunks.{pieces_in, joined}
use Rattle.text_versions.proofs.Patches.{pieces_between, bytes_in_three, bytes_patched}
use Rattle.text_versions.proofs.patch.bytes_after.Goals as goal

pub bytes_of-requires : goal.bytes_of-requires
bytes_of-requires c =
    let r = c.args.patch.now.region in
    let same = ap (λ ps. ended_bytes (joined ps)) (pieces_between c.args.chunks.now r.first r.last) in
    let whole = bytes_in_three (pieces_in c.args.chunks.now) r c.requires.patch.region.order in
    omega (arith, same, whole, c.requires.bytes)

pub overflow_sub-result : goal.overflow_sub-result
overflow_sub-result c =
    let r = c.args.patch.now.region in
    let same = ap (λ ps. ended_bytes (joined ps)) (pieces_between c.args.chunks.now r.first r.last) in
    let whole = bytes_in_three (pieces_in c.args.chunks.now) r c.requires.patch.region.order in
    omega (arith, same, whole, c.requires.bytes, c.bytes_of.ensures, c.from.ensures)

pub overflow_add-result : goal.overflow_add-result
overflow_add-result c = omega (arith, c.from.ensures, c.ended_bytes.ensures.bound)

pub returns : goal.returns
returns c =
    let r = c.args.patch.now.region in
    let same = ap (λ ps. ended_bytes (joined ps)) (pieces_between c.args.chunks.now r.first r.last) in
    let whole = bytes_in_three (pieces_in c.args.chunks.now) r c.requires.patch.region.order in
    let after = bytes_patched (pieces_in c.args.chunks.now) c.args.edit.now c.args.patch.now c.requires.patch in
    let lines = ap ended_bytes c.as_slice.ensures.value in
    omega (arith, same, whole, after, lines, c.requires.bytes, c.bytes_of.ensures, c.from.ensures, c.ended_bytes.ensures.bytes)
