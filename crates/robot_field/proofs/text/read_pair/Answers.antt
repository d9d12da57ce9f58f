use Rattle.robot_field.proofs.Reading.{no_pair}
use Rattle.robot_field.proofs.text.read_pair.Goals as goal

pub returns-in-None : goal.returns-in-None
returns-in-None c =
    let read = c.in-Some.ensures in
    no_pair c.args.text.now c.in-Some.rest.now c.in-Some.first read.0 read.1 c.in-None.ensures
