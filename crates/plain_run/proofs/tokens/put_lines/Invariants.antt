use Rattle.std.proofs.Common.{◌≡◌, take, map}
use Rattle.std.specs.Str.{chars}
use Rattle.plain_run.specs.Puts.{PutsLines}
use Rattle.plain_run.proofs.tokens.put_lines.Given as goal

abbrev pub invariant-loop-i : goal.invariant-loop-i
invariant-loop-i g l = record {
  so_far : PutsLines 1 (take l.i (map (λ line. chars line.now) l.lines)) (g.O.Sink.state l.fn.output) (g.O.Sink.state l.output);
  stood : (g.O.Sink.state l.output).faults ≡ (g.O.Sink.state l.fn.output).faults;
}
