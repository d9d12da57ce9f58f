-- What was told, in the order in which it was told.
use Rattle.std.specs.Prelude.{List, [], ◌∷◌, ◌++◌}
use Rattle.km_base.specs.declared.noted.Told.{Told, Nothing, Later'}

abbrev pub told_items : {T : Type 0} → Told T → List T
told_items Nothing = []
told_items (Later' shape earlier item) = told_items earlier ++ item.value ∷ []
