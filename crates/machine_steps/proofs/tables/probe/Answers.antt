use Rattle.std.proofs.Common.{◌∙◌, refl}
use Rattle.kumir_meaning.specs.Store.{checked}
use Rattle.stack_code.specs.CodeState.{cell_in}
use Rattle.machine_steps.specs.States.{slots_of}
use Rattle.machine_steps.proofs.TableChecks.{fine_on, fine_with}
use Rattle.machine_steps.proofs.tables.probe.Goals as goal

pub returns-clause-acts : goal.returns-clause-acts
returns-clause-acts c =
    fine_on _ _ c.args.running.now _ _ _ _ c.args.line
    (fine_with (checked (cell_in (slots_of c.args.running.now.slots c.args.slot))) _ _ _ (c.as_slice.ensures ∙ c.in_ok-index.ensures) c.check_slot-found.ensures)
    refl c.go_or_end.ensures.acts
