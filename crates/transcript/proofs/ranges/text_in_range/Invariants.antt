use Rattle.std.proofs.Common.{◌≡◌, true, take}
use Rattle.std.specs.Str.{all_scalars}
use Rattle.transcript.proofs.ranges.text_in_range.Given as goal

abbrev pub invariant-loop-c : goal.invariant-loop-c
invariant-loop-c l = all_scalars (take l.c-index l.text) ≡ true
