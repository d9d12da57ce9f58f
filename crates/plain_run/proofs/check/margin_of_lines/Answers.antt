use Rattle.std.proofs.Common.{sym, subst}
use Rattle.plain_run.specs.Texts.{AreLines}
use Rattle.plain_run.proofs.Within.{within_limits}
use Rattle.plain_run.proofs.check.margin_of_lines.Goals as goal

pub text_of-requires : goal.text_of-requires
text_of-requires c = within_limits c.in_ok-lines.lines _ c.in_ok-lines.ensures.spelled c.requires.weight (subst AreLines (sym c.in_ok-lines.ensures.lines) c.requires.within)
