use Rattle.std.proofs.Common.{◌≤◌, length, take}
use Rattle.robot_field.specs.FieldText.{Marks}
use Rattle.robot_field.proofs.field.Field.read_marks.Given as goal

abbrev pub invariant-loop-place : goal.invariant-loop-place
invariant-loop-place l = Marks l.initial.self (take l.place l.lines) l.self × (l.place ≤ length l.lines)
