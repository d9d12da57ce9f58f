use Rattle.std.proofs.Common.{◌≡◌, ◌∙◌, length, ap, arith}
use Rattle.std.specs.List.{splice}
use Rattle.std.specs.Vec.Iter.{into_iter_len}
use Rattle.text_versions.proofs.Spliced.{drained}
use Rattle.text_versions.proofs.applied.replace.Goals as goal

pub returns-clause-replaced : goal.returns-clause-replaced
returns-clause-replaced c =
    let t = c.in_ok-splice.ensures.items in
    let count : into_iter_len t.0 ≡ length c.args.others.items = omega (arith, t.2.1) in
    t.4 ∙ ap (splice c.args.chunks.now.items c.args.region.first c.args.region.last) (drained t.0 t.1 c.args.others.items t.3 t.2.0 count)
