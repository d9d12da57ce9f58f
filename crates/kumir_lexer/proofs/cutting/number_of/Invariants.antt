use Rattle.std.proofs.Common.{◌≡◌, ◌≤◌, take}
use Rattle.kumir_lexer.specs.Classes.{value}
use Rattle.kumir_lexer.proofs.cutting.number_of.Given as goal

abbrev pub invariant-loop-digit : goal.invariant-loop-digit
invariant-loop-digit l = record { fits : l.number ≤ 2147483647; so_far : l.number ≡ value (take l.digit-index l.digits) }
