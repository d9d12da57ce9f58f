use Rattle.std.proofs.Common.{◌++◌, [], ◌∷◌, take, sym, ap, ◌∙◌}
use Rattle.std.specs.Str.{all_scalars}
use Rattle.std.proofs.lemmas.List.{take_more}
use Rattle.transcript.proofs.Escapes.{scalars_more}
use Rattle.transcript.proofs.ranges.text_in_range.Goals as goal

pub loop-c-preserved : goal.loop-c-preserved
loop-c-preserved c =
    ap all_scalars (take_more c.args.text.now c.loop-c.c-index c.c-item.result c.loop-c-test.true ∙ ap (λ x. take c.loop-c.c-index c.args.text.now ++ x ∷ []) (sym c.c-item.is))
    ∙ scalars_more (take c.loop-c.c-index c.args.text.now) c.c-item.result c.loop-c.invariant c.character.ensures
