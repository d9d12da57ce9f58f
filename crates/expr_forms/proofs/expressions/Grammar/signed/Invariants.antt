use Rattle.std.proofs.Common.{◌≡◌, ◌-◌}
use Rattle.expr_forms.specs.Reading as spec
use Rattle.expr_forms.proofs.Turns.{with_pending}
use Rattle.expr_forms.proofs.expressions.Grammar.signed.Given as goal

abbrev pub invariant-loop-turn : goal.invariant-loop-turn
invariant-loop-turn g l = spec.signed (spec.expr_in l.self.depth) l.fn.tokens ≡ with_pending l.pending (spec.signed_in (spec.expr_in l.self.depth) (l._turn-end - l._turn) l.tokens)
