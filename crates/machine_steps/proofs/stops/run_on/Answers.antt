use Rattle.std.proofs.Common.{◌∙◌, refl, subst}
use Rattle.machine_steps.specs.Stages.{full_state_of, StopsOrGoesOn, StaysStage}
use Rattle.machine_steps.proofs.EventSteps.{steps_to_none}
use Rattle.machine_steps.proofs.StagesStay.{turns_then}
use Rattle.machine_steps.proofs.stops.run_on.Goals as goal

pub loop-stop-init : goal.loop-stop-init
loop-stop-init c = record { stage = c.requires.stage; inputs = refl; comes = steps_to_none c.args.units.now (full_state_of c.args.units.now c.args.stage.now) }

pub returns-in-Some-clause-stops : goal.returns-in-Some-clause-stops
returns-in-Some-clause-stops c =
    subst (λ o. StopsOrGoesOn c.args.units.now (full_state_of c.args.units.now c.args.stage.now) o (full_state_of c.args.units.now c.pass_non_local.new.stage)) c.in-Some.is
    (turns_then c.args.units.now (full_state_of c.args.units.now c.args.stage.now) (full_state_of c.args.units.now c.loop-stop.stage) (full_state_of c.args.units.now c.pass_non_local.new.stage) c.in_ok-stop.field-0 c.loop-stop.invariant.comes c.in_ok-stop.ensures.turns)

pub loop-stop-preserved : goal.loop-stop-preserved
loop-stop-preserved c = record {
  inputs = c.pass_non_local.ensures.inputs ∙ c.loop-stop.invariant.inputs;
  stage = subst (λ o. StaysStage c.args.units.now o c.pass_non_local.new.stage) c.in_default.is c.in_ok-stop.ensures.stage;
  comes = subst (λ o. StopsOrGoesOn c.args.units.now (full_state_of c.args.units.now c.args.stage.now) o (full_state_of c.args.units.now c.pass_non_local.new.stage)) c.in_default.is
      (turns_then c.args.units.now (full_state_of c.args.units.now c.args.stage.now) (full_state_of c.args.units.now c.loop-stop.stage) (full_state_of c.args.units.now c.pass_non_local.new.stage) c.in_ok-stop.field-0 c.loop-stop.invariant.comes c.in_ok-stop.ensures.turns);
}
