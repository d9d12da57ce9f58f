use Rattle.std.proofs.Common.{◌≡◌, List, map, take}
use Rattle.margins.specs.declared.margin.Mark.{Mark}
use Rattle.margins.specs.Marks.{IsMargin}
use Rattle.margins.specs.Printed.{mark_word}
use Rattle.margins.proofs.read.read_words.Given as goal

abbrev pub invariant-loop-word : goal.invariant-loop-word
invariant-loop-word l = (ms : List Mark) → IsMargin ms → map (λ w. w.now) l.words ≡ map mark_word ms → l.margin ≡ take l.word-index ms
