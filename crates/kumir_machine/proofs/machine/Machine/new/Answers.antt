use Rattle.std.proofs.Common.{◌∙◌, sym, ap}
use Rattle.std.specs.Arc.{arc_value}
use Rattle.kumir_machine.proofs.NewMachine.{all_valid, entry_there, begun_machine}
use Rattle.kumir_machine.proofs.machine.Machine.new.Goals as goal

pub begin_run-requires-clause-valid : goal.begin_run-requires-clause-valid
begin_run-requires-clause-valid c = all_valid c.as_slice.result.now c.deref-2.result.now.units c.deref-2.result.now.entry (c.as_slice.ensures ∙ c.units.ensures.answer) c.units.ensures.valid

pub begin_run-requires-clause-there : goal.begin_run-requires-clause-there
begin_run-requires-clause-there c =
    entry_there c.as_slice.result.now c.deref-2.result.now.units c.deref-2.result.now.entry c.in-Some.entry (c.as_slice.ensures ∙ c.units.ensures.answer)
    (c.in-Some.ensures ∙ ap (λ x. x.entry) (c.deref.ensures ∙ sym c.deref-2.ensures)) c.units.ensures.valid

pub invariant_of-result : goal.invariant_of-result
invariant_of-result c =
    begun_machine (arc_value c.args.code) c.as_slice.result.now c.args.budget c.in-Some.entry c.args.inputs c.in_ok-stage.stage c.new.result c.new-2.result
    (sym (c.in-Some.ensures ∙ ap (λ x. x.entry) c.deref.ensures)) (c.as_slice.ensures ∙ c.units.ensures.answer ∙ ap (λ x. x.units) c.deref-2.ensures)
    c.in_ok-stage.ensures.stage c.in_ok-stage.ensures.begin c.in_ok-stage.ensures.inputs c.new.ensures c.new-2.ensures
