use Rattle.std.proofs.Common.{◌≡◌, ◌++◌, length}
use Rattle.kumir_compiler.specs.Sites.{placed}
use Rattle.kumir_compiler.specs.PendingCode.{code_of}
use Rattle.kumir_compiler.proofs.places.body_of.Given as goal

abbrev pub invariant-loop-line : goal.invariant-loop-line
invariant-loop-line l = l.body ++ placed (length l.body) (code_of l.lines) ≡ placed 0 (code_of l.fn.lines)

abbrev pub decreases-loop-line : goal.decreases-loop-line
decreases-loop-line l = length l.lines
