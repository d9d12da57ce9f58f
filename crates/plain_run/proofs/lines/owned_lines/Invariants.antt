use Rattle.std.proofs.Common.{◌≡◌, take, map}
use Rattle.std.specs.Str.{chars, encode_utf8_all}
use Rattle.plain_run.proofs.lines.owned_lines.Given as goal

abbrev pub invariant-loop-line : goal.invariant-loop-line
invariant-loop-line l = record {
  lines : l.owned ≡ take l.line-index (map (λ line. chars line.now) l.lines);
  spelled : map encode_utf8_all l.owned ≡ take l.line-index (map (λ line. line.now) l.lines);
}
