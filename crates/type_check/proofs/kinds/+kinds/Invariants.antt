use Rattle.std.proofs.Common.{◌≡◌, ◌&&◌, drop, map}
use Rattle.kumir_tree.specs.Seen.{trees}
use Rattle.kumir_tree.specs.Parts.{formal_of}
use Rattle.type_check.specs.Scopes.{among}
use Rattle.type_check.specs.Kinds as k
use Rattle.type_check.proofs.kinds.+kinds.Given as goal

abbrev pub invariant-all_whole-loop-e : goal.invariant-all_whole-loop-e
invariant-all_whole-loop-e l = (l.whole && k.all_whole (k.arguments (among l.scope) (trees (drop l.e-index l.arguments)))) ≡ k.all_whole (k.arguments (among l.scope) (trees l.arguments))

abbrev pub invariant-arguments_fit-loop-e : goal.invariant-arguments_fit-loop-e
invariant-arguments_fit-loop-e l = record {
  at : l.at ≡ l.e-index;
  fit : (l.fit && k.arguments_fit (map formal_of (drop l.at l.params)) (k.arguments (among l.scope) (trees (drop l.e-index l.arguments)))) ≡ k.arguments_fit (map formal_of l.params) (k.arguments (among l.scope) (trees l.arguments));
}
