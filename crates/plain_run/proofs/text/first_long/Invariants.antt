use Rattle.std.proofs.Common.{take, map}
use Rattle.std.specs.Str.{chars}
use Rattle.plain_run.specs.Texts.{AreShort}
use Rattle.plain_run.proofs.text.first_long.Given as goal

abbrev pub invariant-loop-i : goal.invariant-loop-i
invariant-loop-i l = AreShort (take l.i (map (λ line. chars line.now) l.lines))
