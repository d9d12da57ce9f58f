-- What a vector gives when it takes the place of a part of another.
use Rattle.std.proofs.Common.{◌≡◌, List, length, sym, ◌∙◌}
use Rattle.std.specs.Iterator.{Drains}
use Rattle.std.specs.Vec.Iter.{into_iter_items, into_iter_len, into_iter_steps}
use Rattle.std.specs.declared.vec.IntoIter.{IntoIter}
use Rattle.std.proofs.lemmas.List.{map-id}
use Rattle.std.proofs.lemmas.Iterator.{items_from_drains}
use Rattle.std.proofs.lemmas.Iterator.Adapters.{YieldsList-from_vec}

-- the items that are taken out of it are its items
pub drained : {A Z : Type 0} (s : IntoIter A Z) (xs all : List A) → Drains (into_iter_steps {X = A} {Z = Z}) s xs → into_iter_items s ≡ all → into_iter_len s ≡ length all → xs ≡ all
drained s xs all d items count = sym (map-id xs) ∙ items_from_drains xs (d.1.0, d.1.1, λ _. (d.0, d.1.2)) (YieldsList-from_vec all items count)
