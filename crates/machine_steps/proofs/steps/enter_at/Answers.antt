use Rattle.std.proofs.Common.{◌∙◌, refl, sym, ap}
use Rattle.stack_code.specs.declared.instruction.Instruction.TheVariants as code
use Rattle.machine_steps.proofs.StepsReach.{entered_so}
use Rattle.machine_steps.proofs.steps.enter_at.Goals as goal

pub returns-clause-enters : goal.returns-clause-enters
returns-clause-enters c =
    entered_so c.args.units.now c.args.stage.now (record { running = c.enter.new.running; waiting = c.enter.new.waiting; inputs = c.args.stage.now.inputs; taken = c.args.stage.now.taken }) c.args.line.now c.in-Call.number c.as_slice.result.now c.in_ok-end-in-Call.end
    c.requires.there (c.in-Call.is ∙ ap (code.Call c.in-Call.number) (sym c.as_slice.ensures)) c.in_ok-end-in-Call.ensures.acts refl refl
