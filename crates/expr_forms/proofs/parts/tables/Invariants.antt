use Rattle.std.proofs.Common.{◌≡◌, ◌-◌, map}
use Rattle.kumir_tree.specs.Parts.{table_of}
use Rattle.expr_forms.specs.Reading.{listing, listed_from}
use Rattle.expr_forms.specs.PartReading as spec
use Rattle.expr_forms.proofs.parts.tables.Given as goal

abbrev pub invariant-loop-turn : goal.invariant-loop-turn
invariant-loop-turn l = listing spec.table l.fn.tokens ≡ listed_from spec.table (l._turn-end - l._turn) (map table_of l.found) l.tokens
