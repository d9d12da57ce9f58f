use Rattle.std.proofs.Common.{◌≢◌, subst, sym}
use Rattle.std.specs.Prelude.{All}
use Rattle.std.specs.Str.{chars}
use Rattle.script_lines.proofs.Feeds.{no_feed}
use Rattle.script_lines.proofs.Plain.{plain_parts}
use Rattle.script_lines.proofs.gathered.gather.Goals as goal

pub new-requires : goal.new-requires
new-requires c =
    let text = c.in-Some.ensures in
    subst (λ t. All (λ x. x ≢ 10) (chars t)) (sym text.1) (no_feed c.args.line.now (plain_parts c.args.line.now text.0).1 c.requires.ended)
