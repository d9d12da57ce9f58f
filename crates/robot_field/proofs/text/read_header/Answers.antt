use Rattle.robot_field.proofs.Reading.{rest_same}
use Rattle.robot_field.proofs.text.read_header.Goals as goal

pub returns-in_default-read_number_and_rest : goal.returns-in_default-read_number_and_rest
returns-in_default-read_number_and_rest c h counted is =
    let width = c.in-Some.ensures in
    let rest = rest_same c.args.text.now c.in-Some.rest.now _ c.in-Some.width h.width width.0 counted.width width.1 is in
    c.in_default-read_number_and_rest.ensures h.height _ counted.height rest

pub returns-in-None : goal.returns-in-None
returns-in-None c h counted is =
    let width = c.in-Some.ensures in
    let height = c.in-Some-read_number_and_rest.ensures in
    let rest = rest_same c.args.text.now c.in-Some.rest.now _ c.in-Some.width h.width width.0 counted.width width.1 is in
    let pair = rest_same c.in-Some.rest.now c.in-Some-read_number_and_rest.rest.now _ c.in-Some-read_number_and_rest.height h.height height.0 counted.height height.1 rest in
    c.in-None.ensures h.x h.y counted.x counted.y pair
