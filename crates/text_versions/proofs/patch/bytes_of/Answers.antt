use Rattle.std.proofs.Common.{◌+◌, ap, arith}
use Rattle.text_versions.specs.Texts.{ended_bytes}
use Rattle.text_versions.proofs.Patches.{bytes_upto, bytes_within}
use Rattle.text_versions.proofs.patch.bytes_of.Goals as goal

pub overflow_add-bytes : goal.overflow_add-bytes
overflow_add-bytes c =
    let more = bytes_upto c.args.chunks.now c.loop-chunk.chunk-index c.chunk-item.result (omega arith) c.chunk-item.is in
    let within = bytes_within c.args.chunks.now (c.loop-chunk.chunk-index + 1) in
    omega (arith, c.bytes-bytes.ensures, ap ended_bytes c.deref.ensures, more, within)
