use Rattle.std.proofs.Common.{◌∙◌, ◌-◌, ap, take}
use Rattle.machine_steps.proofs.OperandLists.{two_replaced}
use Rattle.machine_steps.proofs.operands.Operands.replace_two.Goals as goal

pub returns : goal.returns
returns c =
    let all = c.self.inside.values in
    let left = c.pop.new.self in
    two_replaced all.items left.items c.args.self.now c.len-top.result c.args.value c.self.view_is
    (c.pop.ensures.rest ∙ ap (λ n. take (n - 1) all.items) all.ok.0) (c.len-top.ensures ∙ left.ok.0) c.requires
