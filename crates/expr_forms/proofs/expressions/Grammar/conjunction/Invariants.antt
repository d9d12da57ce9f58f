use Rattle.std.proofs.Common.{◌≡◌, ◌-◌}
use Rattle.kumir_tree.specs.Seen.{tree}
use Rattle.expr_forms.specs.Reading as spec
use Rattle.expr_forms.proofs.expressions.Grammar.conjunction.Given as goal

abbrev pub invariant-loop-turn : goal.invariant-loop-turn
invariant-loop-turn g l = spec.conjunction (spec.expr_in l.self.depth) l.fn.tokens ≡ spec.chain_from spec.conjunctive (spec.negation (spec.expr_in l.self.depth)) (l._turn-end - l._turn) (tree l.left) l.tokens
