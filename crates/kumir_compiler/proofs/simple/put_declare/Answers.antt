use Rattle.std.proofs.Common.{◌≡◌, ◌-◌, arith}
use Rattle.kumir_tree.specs.Parts.{declares_of}
use Rattle.kumir_compiler.proofs.SimpleInFront.{declare_acts}
use Rattle.kumir_compiler.proofs.simple.put_declare.Goals as goal

pub returns : goal.returns
returns c =
    let is : c.saturating_sub-locals.result ≡ c.args.site.now.locals - c.names_in.result = omega (arith, c.saturating_sub-locals.ensures) in
    declare_acts c.args.site.now c.saturating_sub-locals.result c.args.hidden c.names_in.result (declares_of c.args.declared.now) c.args.out.now c.put_declared.new.out c.names_in.ensures is (c.in_ok-put_declared.ensures {u = tt})
