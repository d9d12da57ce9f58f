use Rattle.std.proofs.lemmas.Result.{IfOk-weaker}
use Rattle.type_check.specs.Placed.{units_in}
use Rattle.plain_run.proofs.Courses.{has_entry, at_begin}
use Rattle.plain_run.proofs.run.machine_of.Goals as goal

pub new-requires-2-clause-entry : goal.new-requires-2-clause-entry
new-requires-2-clause-entry c = has_entry _ c.in_ok-code.code (units_in c.args.program.now) c.in_ok-new.ensures.ok c.in_ok-code.ensures.entry c.requires.runnable

pub returns : goal.returns
returns c =
    IfOk-weaker c.new-2.result _ _
    (λ m e. at_begin (units_in c.args.program.now) c.args.budget c.args.inputs _ c.in_ok-code.code m c.in_ok-new.ensures.ok c.in_ok-code.ensures.entry c.in_ok-code.ensures.meaning c.requires.runnable e) c.new-2.ensures
