use Rattle.std.proofs.Common.{◌∙◌, sym}
use Rattle.machine_steps.specs.Stages.{full_state_of}
use Rattle.machine_steps.proofs.StagesStay.{input_none, input_other, input_taken, input_stage, input_fewer}
use Rattle.machine_steps.proofs.stops.input.Goals as goal

pub returns-in_default-clause-turns : goal.returns-in_default-clause-turns
returns-in_default-clause-turns c = input_none c.args.units.now c.args.stage.now c.args.kind c.args.line (full_state_of c.args.units.now c.args.stage.now) c.requires.there (sym c.next_input.ensures.value ∙ c.in_default.is)

pub returns-in_ok-take_input-in-Ok-clause-turns : goal.returns-in_ok-take_input-in-Ok-clause-turns
returns-in_ok-take_input-in-Ok-clause-turns c =
    input_taken c.args.units.now c.args.stage.now c.take_input.new.stage c.args.kind c.args.line c.in-Some.value c.in-Ok.value c.requires.there
    (sym c.next_input.ensures.value ∙ c.in-Some.is) (sym c.value_as.ensures ∙ c.in-Ok.is) c.in_ok-take_input-in-Ok.ensures.taken

pub returns-in_ok-take_input-in-Ok-clause-stage : goal.returns-in_ok-take_input-in-Ok-clause-stage
returns-in_ok-take_input-in-Ok-clause-stage c = input_stage c.args.units.now c.args.stage.now c.take_input.new.stage c.args.kind c.args.line c.in-Ok.value c.requires.valid c.requires.stage c.requires.there c.in_ok-take_input-in-Ok.ensures.taken

pub returns-in_ok-take_input-in-Ok-clause-fewer : goal.returns-in_ok-take_input-in-Ok-clause-fewer
returns-in_ok-take_input-in-Ok-clause-fewer c = input_fewer c.args.stage.now c.take_input.new.stage c.in-Some.value c.in-Ok.value (sym c.next_input.ensures.value ∙ c.in-Some.is) c.in_ok-take_input-in-Ok.ensures.taken

pub returns-in-Err-clause-turns : goal.returns-in-Err-clause-turns
returns-in-Err-clause-turns c =
    input_other c.args.units.now c.args.stage.now c.args.kind c.args.line c.in-Some.value c.in-Err.fault (full_state_of c.args.units.now c.args.stage.now) c.requires.there (sym c.next_input.ensures.value ∙ c.in-Some.is) (sym c.value_as.ensures ∙ c.in-Err.is)
