use Rattle.std.proofs.Common.{sym, ◌∙◌}
use Rattle.robot_field.proofs.Reading.{no_other_mark}
use Rattle.robot_field.proofs.field.Field.read_line.Goals as goal

pub returns-in-Some-clause-bad : goal.returns-in-Some-clause-bad
returns-in-Some-clause-bad c =
    let read = c.in-Some.ensures in
    no_other_mark c.args.self.now c.args.line.now c.in-Some.mark c.put.result read.0 (sym c.as_str.ensures.spelled ∙ read.1) c.put.ensures.fits
