use Rattle.std.proofs.Common.{◌≡◌, ℕ, ◌<◌, List, [], length, get_or, ◌∙◌, ap, arith, below_more}
use Rattle.std.specs.Str.{encode_utf8_all}
use Rattle.std.proofs.lemmas.List.{get_or_default}
use Rattle.std.proofs.lemmas.List.Elements.{All-from_get_or}
use Rattle.line_pieces_tests.proofs.tests.all_short.Goals as goal

short_here : (lines : List (List ℕ)) (i : ℕ) (line bytes : List ℕ) → i < length lines → line ≡ get_or lines i line → bytes ≡ encode_utf8_all line → length bytes < 4294967295 → length (encode_utf8_all (get_or lines i [])) < 4294967295
short_here lines i line bytes h read spelled short = omega (arith, ap length spelled, ap (λ l. length (encode_utf8_all l)) (read ∙ get_or_default lines i line [] h))

pub loop-line-preserved : goal.loop-line-preserved
loop-line-preserved c =
    below_more _ _ c.loop-line.invariant (short_here c.args.lines.now c.loop-line.line-index c.line-item.result c.as_str.result.now c.loop-line-test.true c.line-item.is c.as_str.ensures.spelled (omega (arith, c.if-as_str-ge-LIMIT.false)))

pub returns : goal.returns
returns c = λ t. All-from_get_or (λ line. length (encode_utf8_all line) < 4294967295) c.args.lines.now [] (λ i h. c.loop-line.invariant i (omega arith))
