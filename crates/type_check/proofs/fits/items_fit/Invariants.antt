use Rattle.std.proofs.Common.{◌≡◌, ◌&&◌, drop}
use Rattle.kumir_tree.specs.Parts.{all_shown}
use Rattle.type_check.specs.Parts as p
use Rattle.type_check.specs.Scopes.{among}
use Rattle.type_check.proofs.fits.items_fit.Given as goal

abbrev pub invariant-loop-item : goal.invariant-loop-item
invariant-loop-item l = (l.fit && p.all_shown_fit (among l.scope) (all_shown (drop l.item-index l.items))) ≡ p.all_shown_fit (among l.scope) (all_shown l.items)
