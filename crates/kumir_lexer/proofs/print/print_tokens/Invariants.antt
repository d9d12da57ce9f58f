use Rattle.std.proofs.Common.{◌≡◌, take}
use Rattle.std.specs.List.{flat_map}
use Rattle.std.specs.String.{string_bytes}
use Rattle.kumir_lexer.specs.Printed.{printed_token}
use Rattle.kumir_lexer.proofs.print.print_tokens.Given as goal

abbrev pub invariant-loop-token : goal.invariant-loop-token
invariant-loop-token l = string_bytes l.out ≡ flat_map (printed_token l.line) (take l.token-index l.token-items)
