use Rattle.std.proofs.Common.{map, subst, arith}
use Rattle.std.specs.Str.{chars}
use Rattle.std.proofs.lemmas.List.{take_all, length-map}
use Rattle.plain_run.specs.Texts.{AreShort}
use Rattle.plain_run.proofs.Limits.{short_more}
use Rattle.plain_run.proofs.text.first_long.Goals as goal

pub loop-i-preserved : goal.loop-i-preserved
loop-i-preserved c = short_more (λ line. chars line.now) c.args.lines.now c.loop-i.i _ c.loop-i-test.true c.loop-i.invariant c.width_of.result c.width_of.ensures (omega (arith, c.if-width_of-gt-LINE_CHARACTERS.false))

pub returns : goal.returns
returns c = subst AreShort (take_all c.loop-i.i (map (λ line. chars line.now) c.args.lines.now) (omega (arith, length-map c.args.lines.now (λ line. chars line.now), c.loop-i-test.false))) c.loop-i.invariant
