use Rattle.robot_field.proofs.Reading.{cut_at_number}
use Rattle.robot_field.proofs.text.read_number_and_rest.Goals as goal

pub returns-in_default : goal.returns-in_default
returns-in_default c n rest count is =
    let cut = cut_at_number c.args.text.now rest n _ c.split_once.ensures.cases count is in
    rw c.in_default.is at cut

pub returns-in-None : goal.returns-in-None
returns-in-None c n rest count is =
    let cut = cut_at_number c.args.text.now rest n _ c.split_once.ensures.cases count is in
    let at = rw c.in-Some.is at cut in
    c.in-None.ensures n count at.0
