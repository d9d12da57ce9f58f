use Rattle.std.proofs.Common.{ℕ, ◌<◌, [], length, get_or}
use Rattle.std.specs.Str.{encode_utf8_all}
use Rattle.line_pieces_tests.proofs.tests.all_short.Given as goal

abbrev pub invariant-loop-line : goal.invariant-loop-line
invariant-loop-line l = (k : ℕ) → k < l.line-index → length (encode_utf8_all (get_or l.lines k [])) < 4294967295
