use Rattle.std.proofs.Common.{[], refl, ◌∙◌}
use Rattle.script_lines.specs.Words.{request_line}
use Rattle.script_lines.specs.Begun.{begun_of}
use Rattle.script_lines.proofs.Gathering.{first_settled}
use Rattle.script_lines.proofs.gathered.begin.Goals as goal

pub returns-in_default-clause-request : goal.returns-in_default-clause-request
returns-in_default-clause-request c l kept =
    let head = c.in_ok-head.ensures ∙ kept.request in
    c.settle.ensures.request (begun_of c.args.number l []) (record { first = refl; head = head; taken = refl; plain = refl; lines = λ is. c.new.ensures })
    ∙ first_settled c.args.number (request_line l) (λ e. c.in_default.not-Nothing (head ∙ e))

pub returns-in_default-clause-left : goal.returns-in_default-clause-left
returns-in_default-clause-left c l kept =
    let head = c.in_ok-head.ensures ∙ kept.request in
    c.settle.ensures.left (begun_of c.args.number l []) (record { first = refl; head = head; taken = refl; plain = refl; lines = λ is. c.new.ensures })
