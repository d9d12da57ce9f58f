use Rattle.std.proofs.Common.{◌<◌, length, sym, ◌∙◌, subst, arith}
use Rattle.sample_maker.proofs.Spans.{spans_few, lines_few}
use Rattle.sample_maker.proofs.newest.count_algorithms.Goals as goal

pub overflow_cast-result : goal.overflow_cast-result
overflow_cast-result c =
    let few = lines_few _ c.in_ok-lines.lines c.as_slice.result.now c.count.result c.as_slice.ensures c.in_ok-lines.ensures (subst (λ t. length t < 4294967295) (c.deref-2.ensures ∙ sym c.deref.ensures) c.count.ensures.text.lines) in
    omega (arith, c.len.ensures, spans_few c.as_slice.result.now c.in_ok-spans.spans c.in_ok-spans.ensures, few)
