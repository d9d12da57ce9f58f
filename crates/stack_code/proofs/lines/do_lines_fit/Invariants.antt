use Rattle.std.proofs.Common.{◌≡◌, ◌<◌, ◌-◌, ℕ, length, slice_get, Some, IsTrue}
use Rattle.stack_code.specs.declared.instruction.CodeLine.{CodeLine}
use Rattle.stack_code.specs.Validity.{line_fits}
use Rattle.stack_code.proofs.lines.do_lines_fit.Given as goal

abbrev pub invariant-loop-place : goal.invariant-loop-place
invariant-loop-place l = (k : ℕ) (line : CodeLine) → k < l.place → slice_get l.fn.unit.body k ≡ Some line → IsTrue (line_fits l.fn.units l.fn.unit k line)

abbrev pub decreases-loop-place : goal.decreases-loop-place
decreases-loop-place l = length l.fn.unit.body - l.place
