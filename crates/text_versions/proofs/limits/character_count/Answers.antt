use Rattle.std.proofs.Common.{length, ap, ◌∙◌}
use Rattle.std.proofs.lemmas.Iterator.{YieldsList-from_chars}
use Rattle.std.proofs.lemmas.Iterator.Consumers.{count_from_yields_List}
use Rattle.text_versions.proofs.limits.character_count.Goals as goal

pub returns : goal.returns
returns c =
    count_from_yields_List c.chars.result c.count.result c.count.ensures.ran (YieldsList-from_chars c.as_str.result.now c.as_str.utf8 (cc))
    ∙ ap length c.as_str.ensures.characters
