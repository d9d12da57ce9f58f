use Rattle.std.proofs.Common.{◌∙◌, None, Some, refl, sym, ap}
use Rattle.std.specs.Prelude.{slice_get}
use Rattle.machine_steps.proofs.EventSteps.{steps_to_none}
use Rattle.machine_steps.proofs.ValidCalls.{callee_is}
use Rattle.machine_steps.proofs.StepsReach.{nothing_enters}
use Rattle.machine_steps.proofs.steps.enter_next.Goals as goal

pub returns-in_default-clause-enters : goal.returns-in_default-clause-enters
returns-in_default-clause-enters c = steps_to_none c.args.units.now _

pub returns-in_default-clause-stage : goal.returns-in_default-clause-stage
returns-in_default-clause-stage c =
    let is = callee_is c.args.units.now c.args.stage.now.running.unit c.index-units-stage.result c.index-units-stage.is c.requires.stage.entered.unit in
    let body = c.as_slice.ensures ∙ ap (λ u. u.body) is in
    nothing_enters c.args.units.now c.args.stage.now None c.requires.stage (sym (c.in_default.ensures.line ∙ ap (λ b. slice_get b c.args.stage.now.running.pc) body)) refl

pub returns-then-not-is_call_line-clause-enters : goal.returns-then-not-is_call_line-clause-enters
returns-then-not-is_call_line-clause-enters c = steps_to_none c.args.units.now _

pub returns-then-not-is_call_line-clause-stage : goal.returns-then-not-is_call_line-clause-stage
returns-then-not-is_call_line-clause-stage c =
    let is = callee_is c.args.units.now c.args.stage.now.running.unit c.index-units-stage.result c.index-units-stage.is c.requires.stage.entered.unit in
    let body = c.as_slice.ensures ∙ ap (λ u. u.body) is in
    nothing_enters c.args.units.now c.args.stage.now (Some c.in-Some.line.now) c.requires.stage (sym (c.in-Some.ensures.line ∙ ap (λ b. slice_get b c.args.stage.now.running.pc) body)) (sym c.is_call_line.ensures ∙ c.if-not-is_call_line.true)

pub enter_at-requires-clause-there : goal.enter_at-requires-clause-there
enter_at-requires-clause-there c =
    let is = callee_is c.args.units.now c.args.stage.now.running.unit c.index-units-stage.result c.index-units-stage.is c.requires.stage.entered.unit in
    let body = c.as_slice.ensures ∙ ap (λ u. u.body) is in
    sym (c.in-Some.ensures.line ∙ ap (λ b. slice_get b c.args.stage.now.running.pc) body)
