use Rattle.std.proofs.Common.{◌+◌, [], map, drop, sym, ap, ◌∙◌}
use Rattle.script_lines.specs.Words.{values_of}
use Rattle.script_lines.proofs.Values.{after_values, value_more, value_none, values_start, values_end}
use Rattle.script_lines.proofs.read.read_values.Goals as goal

pub returns-in-None : goal.returns-in-None
returns-in-None c =
    sym (value_none c.loop-word.values c.args.words.now c.loop-word.word-index record { ref_ptr = (0, 0); now = [] } c.loop-word-test.true (sym c.in-None.is ∙ c.in_ok-value.ensures)) ∙ c.loop-word.invariant

pub loop-word-init : goal.loop-word-init
loop-word-init c = values_start c.new-values.result _ c.new-values.ensures

pub loop-word-preserved : goal.loop-word-preserved
loop-word-preserved c =
    ap (λ f. after_values f (values_of (map (λ w. w.now) (drop (c.loop-word.word-index + 1) c.args.words.now)))) c.in_ok-push-in-Some.ensures.ok
    ∙ value_more c.loop-word.values c.args.words.now c.loop-word.word-index record { ref_ptr = (0, 0); now = [] } c.in-Some.value c.loop-word-test.true (sym c.in-Some.is ∙ c.in_ok-value.ensures)
    ∙ c.loop-word.invariant

pub returns : goal.returns
returns c = values_end c.loop-word.values c.args.words.now c.loop-word.word-index c.loop-word-test.false ∙ c.loop-word.invariant
