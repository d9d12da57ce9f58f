use Rattle.std.proofs.Common.{◌≡◌, ℕ, ◌+◌, ◌-◌, ◌∙◌, [], drop, refl, sym, subst, arith}
use Rattle.std.specs.Prelude.{IfNone}
use Rattle.machine_steps.specs.Frames.{frames_of}
use Rattle.machine_steps.specs.Stages.{full_state_of, IsStage}
use Rattle.machine_steps.specs.Reaching.{Enters}
use Rattle.machine_steps.proofs.EventSteps.{steps_to_none, steps_to_both}
use Rattle.machine_steps.proofs.StepsReach.{behind_steps, stopped, reach_at, at_step, taken_now, whatever}
use Rattle.machine_steps.proofs.NeededSteps.{needs_none, all_needed, so_needed}
use Rattle.machine_steps.proofs.steps.run_steps.Goals as goal

later_now : (before now taken more : ℕ) → now ≡ before + taken → now + more - before ≡ taken + more
later_now before now taken more e = omega (arith, e)

pub loop-stop-init : goal.loop-stop-init
loop-stop-init c = record { stage = c.requires.stage; inputs = refl; steps = omega arith; few = omega arith; within = c.requires.within; comes = steps_to_none c.args.units.now _; needed = needs_none c.args.units.now _ }

pub loop-stop-preserved : goal.loop-stop-preserved
loop-stop-preserved c =
    let i = c.loop-stop.invariant in
    let here = at_step c.args.units.now (full_state_of c.args.units.now c.loop-stop.stage) (full_state_of c.args.units.now c.run_on.new.stage) c.in_ok-stop.stop (sym c.reached_at.ensures ∙ c.in_default.is) c.in_ok-stop.ensures.stops in
    let before = behind_steps c.args.units.now (full_state_of c.args.units.now c.args.stage.now) (full_state_of c.args.units.now c.loop-stop.stage) (full_state_of c.args.units.now c.run_on.new.stage) c.loop-stop.taken c.loop-stop.taken _ refl c.loop-stop.invariant.comes here.0 in
    let reached = steps_to_both c.args.units.now (full_state_of c.args.units.now c.args.stage.now) (full_state_of c.args.units.now c.run_on.new.stage) (full_state_of c.args.units.now (record c.run_on.new.stage { running = c.take_steps-more.new.running })) c.loop-stop.taken c.take_steps-more.result [] [] [] [] before (c.take_steps-more.ensures.comes (frames_of c.args.units.now c.run_on.new.stage.waiting.items) (drop c.run_on.new.stage.taken c.run_on.new.stage.inputs)) in
    let enters = subst (λ o. Enters c.args.units.now (full_state_of c.args.units.now (record c.run_on.new.stage { running = c.take_steps-more.new.running })) o (full_state_of c.args.units.now c.enter_next.new.stage)) c.in_default-2.is c.in_ok-end.ensures.enters in
    let steps = i.steps in
    let few = i.few in
    let within = i.within in
    let not_most = c.if-taken-most.false in
    let not_all = c.if-steps-budget.false in
    let room = c.min-room.ensures in
    let most = c.take_steps-more.ensures.few in
    record {
      stage = subst (λ o. IfNone o (IsStage c.args.units.now c.enter_next.new.stage)) c.in_default-2.is c.in_ok-end.ensures.stage;
      inputs = c.enter_next.ensures.inputs ∙ c.run_on.ensures.inputs ∙ i.inputs;
      steps = omega (arith, steps);
      few = grind (arith, few, not_most, room, most);
      within = grind (arith, within, not_all, room, most);
      comes = behind_steps c.args.units.now (full_state_of c.args.units.now c.args.stage.now) (full_state_of c.args.units.now (record c.run_on.new.stage { running = c.take_steps-more.new.running })) (full_state_of c.args.units.now c.enter_next.new.stage) (c.loop-stop.taken + c.take_steps-more.result) (c.loop-stop.taken + c.take_steps-more.result) _ refl reached enters;
      needed = all_needed c.args.units.now (full_state_of c.args.units.now c.args.stage.now) (full_state_of c.args.units.now c.run_on.new.stage) c.loop-stop.taken c.take_steps-more.result before c.loop-stop.invariant.needed (c.take_steps-more.ensures.needed (frames_of c.args.units.now c.run_on.new.stage.waiting.items) (drop c.run_on.new.stage.taken c.run_on.new.stage.inputs));
    }

pub returns-in_err-stop-clause-refused : goal.returns-in_err-stop-clause-refused
returns-in_err-stop-clause-refused c = whatever c.from_residual.result _ (full_state_of c.args.units.now c.loop-stop.stage, stopped c.args.units.now (full_state_of c.args.units.now c.args.stage.now) (full_state_of c.args.units.now c.loop-stop.stage) _ c.loop-stop.taken (taken_now c.args.steps.now c.loop-stop.steps c.loop-stop.taken c.loop-stop.invariant.steps) c.loop-stop.invariant.comes)

pub returns-in-Some-clause-reaches : goal.returns-in-Some-clause-reaches
returns-in-Some-clause-reaches c =
    reach_at c.args.units.now (full_state_of c.args.units.now c.args.stage.now) (full_state_of c.args.units.now c.loop-stop.stage) (full_state_of c.args.units.now c.run_on.new.stage) _ c.loop-stop.taken c.in_ok-stop.stop c.in-Some.reached
    (sym c.reached_at.ensures ∙ c.in-Some.is) (taken_now c.args.steps.now c.loop-stop.steps c.loop-stop.taken c.loop-stop.invariant.steps) c.loop-stop.invariant.comes c.in_ok-stop.ensures.stops

pub returns-then-steps-budget-clause-reaches : goal.returns-then-steps-budget-clause-reaches
returns-then-steps-budget-clause-reaches c =
    let here = at_step c.args.units.now (full_state_of c.args.units.now c.loop-stop.stage) (full_state_of c.args.units.now c.run_on.new.stage) c.in_ok-stop.stop (sym c.reached_at.ensures ∙ c.in_default.is) c.in_ok-stop.ensures.stops in
    (behind_steps c.args.units.now (full_state_of c.args.units.now c.args.stage.now) (full_state_of c.args.units.now c.loop-stop.stage) (full_state_of c.args.units.now c.run_on.new.stage) _ c.loop-stop.taken _ (taken_now c.args.steps.now c.loop-stop.steps c.loop-stop.taken c.loop-stop.invariant.steps) c.loop-stop.invariant.comes here.0, here.1)

pub returns-then-taken-most-clause-reaches : goal.returns-then-taken-most-clause-reaches
returns-then-taken-most-clause-reaches c =
    let here = at_step c.args.units.now (full_state_of c.args.units.now c.loop-stop.stage) (full_state_of c.args.units.now c.run_on.new.stage) c.in_ok-stop.stop (sym c.reached_at.ensures ∙ c.in_default.is) c.in_ok-stop.ensures.stops in
    (behind_steps c.args.units.now (full_state_of c.args.units.now c.args.stage.now) (full_state_of c.args.units.now c.loop-stop.stage) (full_state_of c.args.units.now c.run_on.new.stage) _ c.loop-stop.taken _ (taken_now c.args.steps.now c.loop-stop.steps c.loop-stop.taken c.loop-stop.invariant.steps) c.loop-stop.invariant.comes here.0, here.1)

pub returns-in_err-end-clause-refused : goal.returns-in_err-end-clause-refused
returns-in_err-end-clause-refused c =
    let here = at_step c.args.units.now (full_state_of c.args.units.now c.loop-stop.stage) (full_state_of c.args.units.now c.run_on.new.stage) c.in_ok-stop.stop (sym c.reached_at.ensures ∙ c.in_default.is) c.in_ok-stop.ensures.stops in
    let before = behind_steps c.args.units.now (full_state_of c.args.units.now c.args.stage.now) (full_state_of c.args.units.now c.loop-stop.stage) (full_state_of c.args.units.now c.run_on.new.stage) c.loop-stop.taken c.loop-stop.taken _ refl c.loop-stop.invariant.comes here.0 in
    let reached = steps_to_both c.args.units.now (full_state_of c.args.units.now c.args.stage.now) (full_state_of c.args.units.now c.run_on.new.stage) (full_state_of c.args.units.now (record c.run_on.new.stage { running = c.take_steps-more.new.running })) c.loop-stop.taken c.take_steps-more.result [] [] [] [] before (c.take_steps-more.ensures.comes (frames_of c.args.units.now c.run_on.new.stage.waiting.items) (drop c.run_on.new.stage.taken c.run_on.new.stage.inputs)) in
    whatever c.from_residual-in_err-end.result _ (full_state_of c.args.units.now (record c.run_on.new.stage { running = c.take_steps-more.new.running }), stopped c.args.units.now (full_state_of c.args.units.now c.args.stage.now) (full_state_of c.args.units.now (record c.run_on.new.stage { running = c.take_steps-more.new.running })) _ (c.loop-stop.taken + c.take_steps-more.result) (later_now c.args.steps.now c.loop-stop.steps c.loop-stop.taken c.take_steps-more.result c.loop-stop.invariant.steps) reached)

pub returns-in-Some-2-clause-reaches : goal.returns-in-Some-2-clause-reaches
returns-in-Some-2-clause-reaches c =
    let here = at_step c.args.units.now (full_state_of c.args.units.now c.loop-stop.stage) (full_state_of c.args.units.now c.run_on.new.stage) c.in_ok-stop.stop (sym c.reached_at.ensures ∙ c.in_default.is) c.in_ok-stop.ensures.stops in
    let before = behind_steps c.args.units.now (full_state_of c.args.units.now c.args.stage.now) (full_state_of c.args.units.now c.loop-stop.stage) (full_state_of c.args.units.now c.run_on.new.stage) c.loop-stop.taken c.loop-stop.taken _ refl c.loop-stop.invariant.comes here.0 in
    let reached = steps_to_both c.args.units.now (full_state_of c.args.units.now c.args.stage.now) (full_state_of c.args.units.now c.run_on.new.stage) (full_state_of c.args.units.now (record c.run_on.new.stage { running = c.take_steps-more.new.running })) c.loop-stop.taken c.take_steps-more.result [] [] [] [] before (c.take_steps-more.ensures.comes (frames_of c.args.units.now c.run_on.new.stage.waiting.items) (drop c.run_on.new.stage.taken c.run_on.new.stage.inputs)) in
    let ends = subst (λ o. Enters c.args.units.now (full_state_of c.args.units.now (record c.run_on.new.stage { running = c.take_steps-more.new.running })) o (full_state_of c.args.units.now c.enter_next.new.stage)) c.in-Some-2.is c.in_ok-end.ensures.enters in
    (full_state_of c.args.units.now (record c.run_on.new.stage { running = c.take_steps-more.new.running }), ends.0, stopped c.args.units.now (full_state_of c.args.units.now c.args.stage.now) (full_state_of c.args.units.now (record c.run_on.new.stage { running = c.take_steps-more.new.running })) _ (c.loop-stop.taken + c.take_steps-more.result) (later_now c.args.steps.now c.loop-stop.steps c.loop-stop.taken c.take_steps-more.result c.loop-stop.invariant.steps) reached, ends.1, ends.2)

pub returns-in_err-end-clause-needed : goal.returns-in_err-end-clause-needed
returns-in_err-end-clause-needed c =
    let here = at_step c.args.units.now (full_state_of c.args.units.now c.loop-stop.stage) (full_state_of c.args.units.now c.run_on.new.stage) c.in_ok-stop.stop (sym c.reached_at.ensures ∙ c.in_default.is) c.in_ok-stop.ensures.stops in
    let before = behind_steps c.args.units.now (full_state_of c.args.units.now c.args.stage.now) (full_state_of c.args.units.now c.loop-stop.stage) (full_state_of c.args.units.now c.run_on.new.stage) c.loop-stop.taken c.loop-stop.taken _ refl c.loop-stop.invariant.comes here.0 in
    so_needed c.args.units.now (full_state_of c.args.units.now c.args.stage.now) _ (c.loop-stop.taken + c.take_steps-more.result) (later_now c.args.steps.now c.loop-stop.steps c.loop-stop.taken c.take_steps-more.result c.loop-stop.invariant.steps)
    (all_needed c.args.units.now (full_state_of c.args.units.now c.args.stage.now) (full_state_of c.args.units.now c.run_on.new.stage) c.loop-stop.taken c.take_steps-more.result before c.loop-stop.invariant.needed (c.take_steps-more.ensures.needed (frames_of c.args.units.now c.run_on.new.stage.waiting.items) (drop c.run_on.new.stage.taken c.run_on.new.stage.inputs)))

pub returns-in-Some-2-clause-needed : goal.returns-in-Some-2-clause-needed
returns-in-Some-2-clause-needed c =
    let here = at_step c.args.units.now (full_state_of c.args.units.now c.loop-stop.stage) (full_state_of c.args.units.now c.run_on.new.stage) c.in_ok-stop.stop (sym c.reached_at.ensures ∙ c.in_default.is) c.in_ok-stop.ensures.stops in
    let before = behind_steps c.args.units.now (full_state_of c.args.units.now c.args.stage.now) (full_state_of c.args.units.now c.loop-stop.stage) (full_state_of c.args.units.now c.run_on.new.stage) c.loop-stop.taken c.loop-stop.taken _ refl c.loop-stop.invariant.comes here.0 in
    so_needed c.args.units.now (full_state_of c.args.units.now c.args.stage.now) _ (c.loop-stop.taken + c.take_steps-more.result) (later_now c.args.steps.now c.loop-stop.steps c.loop-stop.taken c.take_steps-more.result c.loop-stop.invariant.steps)
    (all_needed c.args.units.now (full_state_of c.args.units.now c.args.stage.now) (full_state_of c.args.units.now c.run_on.new.stage) c.loop-stop.taken c.take_steps-more.result before c.loop-stop.invariant.needed (c.take_steps-more.ensures.needed (frames_of c.args.units.now c.run_on.new.stage.waiting.items) (drop c.run_on.new.stage.taken c.run_on.new.stage.inputs)))
