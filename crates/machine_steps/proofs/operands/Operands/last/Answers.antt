use Rattle.std.proofs.Common.{◌≡◌, ◌-◌, length, reverse, take, ap, ◌∙◌, arith}
use Rattle.std.proofs.lemmas.List.{take_rest}
use Rattle.machine_steps.proofs.OperandLists.{last_pushed}
use Rattle.machine_steps.proofs.operands.Operands.last.Goals as goal

pub returns : goal.returns
returns c =
    let xs = c.as_slice.result.now in
    let e1 = c.saturating_sub.ensures in
    let e2 = c.len.ensures in
    let e3 = c.as_slice.ensures.len in
    let m : c.saturating_sub.result ≡ length xs - c.args.count = omega (arith, e1, e2, e3) in
    take_rest xs c.saturating_sub.result ∙ last_pushed xs c.args.count c.saturating_sub.result m
    ∙ ap (λ l. reverse (take c.args.count l)) (ap reverse c.as_slice.ensures.value ∙ c.self.view_is)
