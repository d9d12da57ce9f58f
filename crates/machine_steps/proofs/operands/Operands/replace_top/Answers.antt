use Rattle.std.proofs.Common.{◌∙◌}
use Rattle.machine_steps.proofs.OperandLists.{one_replaced}
use Rattle.machine_steps.proofs.operands.Operands.replace_top.Goals as goal

pub returns : goal.returns
returns c =
    let all = c.self.inside.values in
    one_replaced all.items c.args.self.now c.len-top.result c.args.value c.self.view_is (c.len-top.ensures ∙ all.ok.0) c.requires
