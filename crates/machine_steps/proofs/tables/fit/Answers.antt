use Rattle.std.proofs.Common.{◌∙◌}
use Rattle.kumir_meaning.specs.Store.{fitted}
use Rattle.stack_code.specs.CodeState.{cell_in, paired}
use Rattle.machine_steps.specs.States.{slots_of}
use Rattle.machine_steps.proofs.TableChecks.{fine_on, fine_with}
use Rattle.machine_steps.proofs.tables.fit.Goals as goal

pub returns-clause-acts : goal.returns-clause-acts
returns-clause-acts c =
    fine_on _ _ c.args.running.now _ _ _ _ c.args.line
    (fine_with (λ ends. fitted (cell_in (slots_of c.args.running.now.slots c.args.slot)) (paired ends)) _ _ _ (c.as_slice.ensures ∙ c.in_ok-ends.ensures) c.fit_slot-found.ensures)
    c.discard.ensures c.go_or_end.ensures.acts
