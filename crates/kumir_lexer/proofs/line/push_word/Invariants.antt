use Rattle.std.proofs.Common.{◌≡◌, ◌++◌, ◌∷◌, take}
use Rattle.kumir_lexer.proofs.line.push_word.Given as goal

abbrev pub invariant-loop-c : goal.invariant-loop-c
invariant-loop-c l = l.name ≡ l.fn.name ++ 32 ∷ take l.c-index l.word
