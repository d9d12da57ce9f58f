use Rattle.std.proofs.Common.{◌≡◌, ◌-◌}
use Rattle.expr_forms.specs.Reading.{listing, listed_from}
use Rattle.expr_forms.specs.PartReading as spec
use Rattle.expr_forms.proofs.parts.names.Given as goal

abbrev pub invariant-loop-turn : goal.invariant-loop-turn
invariant-loop-turn l = listing spec.name l.fn.tokens ≡ listed_from spec.name (l._turn-end - l._turn) l.found l.tokens
