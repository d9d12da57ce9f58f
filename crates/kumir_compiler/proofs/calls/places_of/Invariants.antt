use Rattle.std.proofs.Common.{◌≡◌, ◌++◌, map, drop}
use Rattle.kumir_tree.specs.Seen.{trees}
use Rattle.kumir_tree.specs.Parts.{formal_of}
use Rattle.kumir_compiler.specs.ArgumentCode.{call_places}
use Rattle.kumir_compiler.specs.SitesSeen.{site_of}
use Rattle.kumir_compiler.proofs.calls.places_of.Given as goal

abbrev pub invariant-loop-at : goal.invariant-loop-at
invariant-loop-at l =
    l.places ++ call_places (trees (drop l.at l.all)) (map formal_of (drop l.at l.params)) (site_of l.site) l.kept ≡ call_places (trees l.all) (map formal_of l.params) (site_of l.site) l.hidden
