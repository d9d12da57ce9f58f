use Rattle.std.proofs.Common.{◌<◌, refl, sym, subst}
use Rattle.std.specs.Prelude.{IfNone}
use Rattle.machine_steps.specs.declared.stage.Stage.{Stage}
use Rattle.machine_steps.specs.Stages.{full_state_of, StopsOrGoesOn, StaysStage, size_of}
use Rattle.machine_steps.proofs.StagesStay.{came_back, back_stage, back_fewer}
use Rattle.machine_steps.proofs.stops.come_back.Goals as goal

pub returns : goal.returns
returns c =
    let new : Stage = record { running = c.leave.new.running; waiting = c.leave.new.waiting; inputs = c.args.stage.now.inputs; taken = c.args.stage.now.taken } in
    record {
      turns = subst (λ o. StopsOrGoesOn c.args.units.now (full_state_of c.args.units.now c.args.stage.now) o (full_state_of c.args.units.now new)) (sym c.stop_at.ensures)
          (came_back c.args.units.now c.args.stage.now new c.args.line c.in_ok-end.end c.requires.there c.in_ok-end.ensures.acts refl refl);
      stage = subst (λ o. StaysStage c.args.units.now o new) (sym c.stop_at.ensures) (back_stage c.args.units.now new c.in_ok-end.end c.in_ok-end.ensures.here c.in_ok-end.ensures.past c.in_ok-end.ensures.waits);
      fewer = subst (λ o. IfNone o (size_of new < size_of c.args.stage.now)) (sym c.stop_at.ensures) (back_fewer c.args.stage.now new c.in_ok-end.end c.in_ok-end.ensures.fewer refl refl);
      inputs = refl;
    }
