use Rattle.std.proofs.Common.{rules}
use Rattle.std.proofs.lemmas.Iterator.{YieldsList-from_chars, YieldsList-from_map, text_from_collect}
use Rattle.performer_kit.specs.Commands.{joined_words, joined_char}
use Rattle.performer_kit.proofs.print.join_words.Goals as goal

pub returns : goal.returns
unfolding joined_words
returns c =
    text_from_collect c.collect.result c.collect.ensures.ran
    (YieldsList-from_map _ joined_char (YieldsList-from_chars c.args.text.now c.utf8.text (cc)) (cc) (λ x r q k. search rules))
