use Rattle.std.proofs.Common.{◌≡◌, ◌-◌, map}
use Rattle.kumir_tree.specs.Parts.{place_of}
use Rattle.expr_forms.specs.Reading.{listing, listed_from}
use Rattle.expr_forms.specs.PartReading as spec
use Rattle.expr_forms.proofs.parts.targets.Given as goal

abbrev pub invariant-loop-turn : goal.invariant-loop-turn
invariant-loop-turn l = listing spec.target l.fn.tokens ≡ listed_from spec.target (l._turn-end - l._turn) (map place_of l.found) l.tokens
