use Rattle.std.proofs.Common.{◌≡◌, ◌*◌, ◌≤◌, ◌^◌, take}
use Rattle.text_versions.specs.Texts.{ended_bytes}
use Rattle.text_versions.proofs.limits.ended_bytes.Given as goal

abbrev pub invariant-loop-line : goal.invariant-loop-line
invariant-loop-line l = (l.bytes ≡ ended_bytes (take l.line-index l.lines)) × (l.bytes ≤ l.line-index * 2 ^ 64)
