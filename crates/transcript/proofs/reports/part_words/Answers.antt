use Rattle.std.proofs.Common.{rules}
use Rattle.std.proofs.lemmas.Iterator.{YieldsList-from_chars, YieldsList-from_map, items_from_collect}
use Rattle.transcript.specs.Reading.{parted_char}
use Rattle.transcript.proofs.reports.part_words.Goals as goal

pub returns : goal.returns
returns c =
    items_from_collect c.collect.result c.collect.ensures.ran
    (YieldsList-from_map _ parted_char (YieldsList-from_chars c.args.text.now c.utf8.text (cc)) (cc) (λ x r q k. search rules))
