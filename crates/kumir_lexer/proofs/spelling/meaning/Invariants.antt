use Rattle.std.proofs.Common.{◌≡◌, length, map}
use Rattle.kumir_lexer.specs.Spelling.{meaning}
use Rattle.kumir_lexer.proofs.spelling.meaning.Given as goal

abbrev pub invariant-loop-table : goal.invariant-loop-table
invariant-loop-table g l = meaning (map (λ e. (e.0.now, e.1)) l.table) l.text ≡ meaning (map (λ e. (e.0.now, e.1)) l.initial.table) l.text

abbrev pub decreases-loop-table : goal.decreases-loop-table
decreases-loop-table g l = length l.table
