use Rattle.std.proofs.Common.{◌≡◌, false, ◌++◌, drop}
use Rattle.transcript.specs.Reading.{unescaped}
use Rattle.transcript.proofs.escaped.unescape.Given as goal

abbrev pub invariant-loop-c : goal.invariant-loop-c
invariant-loop-c l = l.out.items ++ unescaped l.after (drop l.c-index l.text) ≡ unescaped false l.text
