use Rattle.std.proofs.Common.{◌-◌, ◌≤◌, List, ◌++◌, length, Option, false}
use Rattle.kumir_tree.specs.declared.token.Spanned.{Spanned}
use Rattle.kumir_lexer.specs.declared.cutting.LexFault.{LexFault}
use Rattle.kumir_lexer.specs.Cutting.{Cuts}
use Rattle.kumir_lexer.proofs.line.scan.Given as goal

abbrev pub invariant-loop-at : goal.invariant-loop-at
invariant-loop-at l = record {
  in_range : l.at ≤ length l.line;
  so_far : (ts : List Spanned) (fault : Option LexFault) → Cuts l.is_after_name l.at l.line ts fault → Cuts false 0 l.line (l.tokens.items ++ ts) fault;
}

abbrev pub decreases-loop-at : goal.decreases-loop-at
decreases-loop-at l = length l.line - l.at
