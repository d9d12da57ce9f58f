use Rattle.std.proofs.Common.{◌≡◌, length, map}
use denote.Enum.Bare.{sameb}
use Rattle.kumir_tree.specs.contracts.token.Key.{the_type}
use Rattle.kumir_lexer.specs.Spelling.{spelled}
use Rattle.kumir_lexer.proofs.spelling.key_spelling.Given as goal

abbrev pub invariant-loop-table : goal.invariant-loop-table
invariant-loop-table l = spelled (sameb the_type l.key) (map (λ e. (e.0.now, e.1)) l.table) ≡ spelled (sameb the_type l.key) (map (λ e. (e.0.now, e.1)) l.initial.table)

abbrev pub decreases-loop-table : goal.decreases-loop-table
decreases-loop-table l = length l.table
