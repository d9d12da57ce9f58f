use Rattle.std.proofs.Common.{◌≡◌, ◌++◌, drop}
use Rattle.kumir_tree.specs.Parts.{all_shown}
use Rattle.type_check.specs.Parts.{all_shown_names}
use Rattle.type_check.proofs.uses.add_items.Given as goal

abbrev pub invariant-loop-item : goal.invariant-loop-item
invariant-loop-item l = l.out ++ all_shown_names (all_shown (drop l.item-index l.items)) ≡ l.fn.out ++ all_shown_names (all_shown l.items)
