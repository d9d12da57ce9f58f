use Rattle.std.proofs.Common.{ap, ◌∙◌, arith}
use Rattle.script_lines.specs.Requests.{lines_wanted}
use Rattle.script_lines.proofs.Gathering.{whole_one}
use Rattle.script_lines.proofs.gathered.settle.Goals as goal

pub returns-else-gathered-lines_wanted-clause-request : goal.returns-else-gathered-lines_wanted-clause-request
returns-else-gathered-lines_wanted-clause-request c b g =
    let want = c.lines_wanted.ensures ∙ ap lines_wanted g.head in
    let taken = g.taken in
    let enough = c.if-gathered-lines_wanted.false in
    whole_one b c.complete.result (c.complete.ensures b g) (omega arith)
