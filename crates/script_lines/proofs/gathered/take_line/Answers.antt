use Rattle.std.proofs.Common.{[], ◌∷◌, ◌++◌, ap, ◌∙◌, sym, subst}
use Rattle.script_lines.specs.Begun.{begun_of, completed, left_by}
use Rattle.script_lines.specs.Reader.{Gathers}
use Rattle.script_lines.proofs.Gathering.{some_begun, one_more, one_left}
use Rattle.script_lines.proofs.gathered.take_line.Goals as goal

pub returns-in_ok-gather-in-Some-clause-request : goal.returns-in_ok-gather-in-Some-clause-request
returns-in_ok-gather-in-Some-clause-request c b l gathers kept =
    let x = some_begun b c.in-Some.gathered (subst (Gathers b) c.in-Some.is gathers) in
    let more = c.in_ok-gather-in-Some.ensures x.0 l x.2 kept in
    one_more x.0 l _ (c.settle.ensures.request (begun_of x.0.first x.0.head (x.0.sofar ++ l ∷ [])) more) c.args.number ∙ sym (ap (λ y. completed c.args.number y l) x.1)

pub returns-in_ok-gather-in-Some-clause-left : goal.returns-in_ok-gather-in-Some-clause-left
returns-in_ok-gather-in-Some-clause-left c b l gathers kept =
    let x = some_begun b c.in-Some.gathered (subst (Gathers b) c.in-Some.is gathers) in
    let more = c.in_ok-gather-in-Some.ensures x.0 l x.2 kept in
    subst (λ y. Gathers (left_by c.args.number y l) c.settle.result.1) (sym x.1) (one_left x.0 l _ (c.settle.ensures.left (begun_of x.0.first x.0.head (x.0.sofar ++ l ∷ [])) more) c.args.number)
