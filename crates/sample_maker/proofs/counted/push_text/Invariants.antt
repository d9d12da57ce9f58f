use Rattle.std.proofs.Common.{◌≡◌, ◌++◌, take}
use Rattle.sample_maker.proofs.counted.push_text.Given as goal

abbrev pub invariant-loop-c : goal.invariant-loop-c
invariant-loop-c l = l.out ≡ l.fn.out ++ take l.c-index l.text
