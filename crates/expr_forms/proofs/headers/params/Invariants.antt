use Rattle.std.proofs.Common.{◌≡◌, ◌-◌, map}
use Rattle.kumir_tree.specs.Parts.{formal_of}
use Rattle.expr_forms.specs.HeaderReading as spec
use Rattle.expr_forms.proofs.headers.params.Given as goal

abbrev pub invariant-loop-turn : goal.invariant-loop-turn
invariant-loop-turn l = spec.params l.fn.tokens ≡ spec.params_from (l._turn-end - l._turn) l.mode l.kind (map formal_of l.found) l.tokens
