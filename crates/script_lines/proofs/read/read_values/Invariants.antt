use Rattle.std.proofs.Common.{◌≡◌, map, drop}
use Rattle.script_lines.specs.Words.{values_of}
use Rattle.script_lines.proofs.Values.{after_values}
use Rattle.script_lines.proofs.read.read_values.Given as goal

-- the values so far, and those of the other words
abbrev pub invariant-loop-word : goal.invariant-loop-word
invariant-loop-word l = after_values l.values (values_of (map (λ w. w.now) (drop l.word-index l.words))) ≡ values_of (map (λ w. w.now) l.words)
