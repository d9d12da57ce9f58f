use Rattle.script_lines.proofs.Plain.{plain_is, plain_not}
use Rattle.script_lines.proofs.read.plain_text.Goals as goal

pub returns-in-Ok : goal.returns-in-Ok
returns-in-Ok c = (plain_is c.args.line.now c.if-line-gt-SCRIPT_LINE_BYTES.false c.in-Ok.ensures.cases.1, c.in-Ok.ensures.cases.0)

pub returns-in-Err : goal.returns-in-Err
returns-in-Err c = plain_not c.args.line.now c.in-Err.ensures.cases.0
