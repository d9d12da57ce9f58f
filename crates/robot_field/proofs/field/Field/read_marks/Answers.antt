use Rattle.std.proofs.Common.{arith}
use Rattle.robot_field.proofs.Reading.{Marks-more}
use Rattle.robot_field.proofs.field.Field.read_marks.Goals as goal

pub loop-place-preserved : goal.loop-place-preserved
loop-place-preserved c =
    (Marks-more c.args.self.now c.loop-place.self _ c.args.lines.now c.loop-place.place c.index-lines-place.result (omega arith) c.index-lines-place.is c.loop-place.invariant.0 c.if-not-read_line.ensures.set, omega arith)
