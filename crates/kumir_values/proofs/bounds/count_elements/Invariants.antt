use Rattle.std.proofs.Common.{◌≡◌, ◌*◌, drop, true}
use Rattle.kumir_values.specs.Bounds.{elements, all_ordered}
use Rattle.kumir_values.proofs.bounds.count_elements.Given as goal

abbrev pub invariant-loop-bound : goal.invariant-loop-bound
invariant-loop-bound l = record {
  counted : l.count * elements (drop l.bound-index l.bounds) ≡ elements l.bounds;
  ordered : all_ordered (drop l.bound-index l.bounds) ≡ true;
  most : l.most ≡ l.room;
}
