use Rattle.std.proofs.Common.{◌≡◌, drop, []}
use Rattle.type_check.specs.Kept.{kept}
use Rattle.type_check.proofs.margin.keep_first.Given as goal

abbrev pub invariant-loop-pair : goal.invariant-loop-pair
invariant-loop-pair l = kept l.margin (drop l.pair-index l.pairs) ≡ kept [] l.pairs
