use Rattle.std.proofs.Common.{◌≡◌, ◌*◌, ◌+◌, ◌≤◌, drop, true}
use Rattle.kumir_values.specs.Bounds.{elements, all_ordered}
use Rattle.kumir_values.proofs.Places.{found}
use Rattle.kumir_values.proofs.bounds.place_of.Given as goal

abbrev pub invariant-loop-k : goal.invariant-loop-k
invariant-loop-k l = record {
  rest : found l.at (drop l.k l.bounds) (drop l.k l.index) ≡ found 0 l.bounds l.index;
  fits : (l.at + 1) * elements (drop l.k l.bounds) ≤ elements l.bounds;
  ordered : all_ordered (drop l.k l.bounds) ≡ true;
}
