use Rattle.std.proofs.Common.{◌≡◌, ◌-◌, map}
use Rattle.kumir_tree.specs.Parts.{limit_of}
use Rattle.expr_forms.specs.Reading.{listing, listed_from}
use Rattle.expr_forms.specs.PartReading as spec
use Rattle.expr_forms.proofs.parts.bound_list.Given as goal

abbrev pub invariant-loop-turn : goal.invariant-loop-turn
invariant-loop-turn l = listing spec.bound l.fn.tokens ≡ listed_from spec.bound (l._turn-end - l._turn) (map limit_of l.found) l.tokens
