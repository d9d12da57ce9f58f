use Rattle.std.proofs.Common.{sym, ◌∙◌}
use Rattle.robot_field.proofs.Reading.{no_other_header}
use Rattle.robot_field.proofs.field.read_first.Goals as goal

pub returns-else-is_placed : goal.returns-else-is_placed
returns-else-is_placed c =
    let read = c.in_ok-header.ensures in
    no_other_header c.args.line.now c.in_ok-header.header read.0 (sym c.as_str.ensures.spelled ∙ read.1) (sym c.is_placed.ensures ∙ c.if-is_placed.false)
