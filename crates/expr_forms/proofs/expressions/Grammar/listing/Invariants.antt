use Rattle.std.proofs.Common.{◌≡◌, ◌-◌, map}
use Rattle.kumir_tree.specs.Seen.{tree}
use Rattle.expr_forms.specs.Reading as spec
use Rattle.expr_forms.proofs.expressions.Grammar.listing.Given as goal

abbrev pub invariant-loop-turn : goal.invariant-loop-turn
invariant-loop-turn g l = spec.listing (spec.expr_in l.self.depth) l.fn.tokens ≡ spec.listed_from (spec.expr_in l.self.depth) (l._turn-end - l._turn) (map tree l.found) l.tokens
