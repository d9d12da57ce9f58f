use Rattle.std.proofs.Common.{◌≡◌, ◌-◌, length, reverse, drop, ap, ◌∙◌, arith}
use Rattle.machine_steps.proofs.OperandLists.{without_last}
use Rattle.machine_steps.proofs.operands.Operands.discard.Goals as goal

pub returns : goal.returns
returns c =
    let xs = c.self.inside.values.items in
    let e0 = ap length c.as_slice.ensures.value in
    let e2 = c.saturating_sub-kept.ensures in
    let m : c.saturating_sub-kept.result ≡ length xs - c.args.count = omega (arith, e0, e2) in
    ap reverse c.truncate.ensures.items ∙ without_last xs c.args.count c.saturating_sub-kept.result m ∙ ap (drop c.args.count) c.self.view_is
