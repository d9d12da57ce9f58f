use Rattle.std.proofs.Common.{ap, ◌∙◌}
use Rattle.std.specs.Str.{encode_utf8_all}
use Rattle.std.proofs.lemmas.Str.{encodes-chars}
use Rattle.plain_run.proofs.Feeds.{line_of_bytes}
use Rattle.plain_run.proofs.lines.line_of.Goals as goal

pub new-requires : goal.new-requires
new-requires c = line_of_bytes c.args.text.now c.utf8.text c.requires

pub returns-clause-spelled : goal.returns-clause-spelled
returns-clause-spelled c = ap encode_utf8_all c.in_ok-new.ensures ∙ encodes-chars c.args.text.now c.utf8.text
