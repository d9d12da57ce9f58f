use Rattle.std.proofs.Common.{◌≡◌, ◌++◌, take}
use Rattle.text_versions.proofs.copies.copy_lines.Given as goal

abbrev pub invariant-loop-line : goal.invariant-loop-line
invariant-loop-line l = l.out.items ≡ l.fn.out.items ++ take l.line-index l.lines
