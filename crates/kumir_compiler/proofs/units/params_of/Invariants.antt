use Rattle.std.proofs.Common.{◌≡◌, ◌++◌, drop, map}
use Rattle.kumir_tree.specs.Parts.{formal_of}
use Rattle.kumir_compiler.specs.UnitCode.{param_slots}
use Rattle.kumir_compiler.specs.SitesSeen.{site_of}
use Rattle.kumir_compiler.proofs.units.params_of.Given as goal

abbrev pub invariant-loop-param : goal.invariant-loop-param
invariant-loop-param l = l.slots ++ param_slots (map formal_of (drop l.param-index l.params)) (site_of l.site) ≡ param_slots (map formal_of l.params) (site_of l.site)
