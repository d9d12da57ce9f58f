use Rattle.std.proofs.Common.{refl, sym, ap, ◌∙◌, subst, List, []}
use Rattle.std.specs.Prelude.{slice_get}
use Rattle.kumir_meaning.specs.Runs.{usual}
use Rattle.stack_code.specs.CodeState.{Frame}
use Rattle.stack_code.specs.declared.unit.CodeUnit.{CodeUnit}
use Rattle.stack_code.specs.Instructions.{unit_at, event_of}
use Rattle.machine_steps.specs.declared.acted.Acted.TheVariants as did
use Rattle.machine_steps.specs.States.{state_of}
use Rattle.machine_steps.specs.Acting.{Acts}
use Rattle.machine_steps.proofs.EventSteps.{steps_to_none}
use Rattle.machine_steps.proofs.JumpsFit.{falls, past_calls, same_unit}
use Rattle.machine_steps.proofs.LocalRuns.{one_alone, end_alone, stands_not, keeps_past, keeps_unit}
use Rattle.machine_steps.proofs.silent.run_each.Goals as goal

pub loop-line-init : goal.loop-line-init
loop-line-init c = record { slots = refl; unit = refl; goes = λ units e frames inputs. steps_to_none units _; past = λ h. h }

pub loop-line-smaller : goal.loop-line-smaller
loop-line-smaller c =
    let there = sym (c.in-Some.ensures.line ∙ ap (λ b. slice_get b c.loop-line.running.pc) c.as_slice.ensures) in
    let local = sym c.is_alone.ensures ∙ c.if-not-is_alone.false in
    let moved = subst (λ a. Acts (event_of usual [] c.in-Some.line.now.what c.in-Some.line.now.line (state_of c.loop-line.running [])) a (state_of c.carry_out.new.running [])) c.in-Moved.is (c.in_ok-acted.ensures.acts [] []) in
    falls [] c.args.unit.now c.in-Some.line.now (state_of c.loop-line.running []) (state_of c.carry_out.new.running []) did.Moved c.requires.ready there local refl moved

pub loop-line-preserved : goal.loop-line-preserved
loop-line-preserved c =
    let there = sym (c.in-Some.ensures.line ∙ ap (λ b. slice_get b c.loop-line.running.pc) c.as_slice.ensures) in
    let local = sym c.is_alone.ensures ∙ c.if-not-is_alone.false in
    let moved = λ (units : List CodeUnit) (frames : List Frame). subst (λ a. Acts (event_of usual units c.in-Some.line.now.what c.in-Some.line.now.line (state_of c.loop-line.running frames)) a (state_of c.carry_out.new.running frames)) c.in-Moved.is (c.in_ok-acted.ensures.acts units frames) in
    record {
      slots = c.carry_out.ensures.count ∙ c.loop-line.invariant.slots;
      unit = same_unit [] c.in-Some.line.now.what c.in-Some.line.now.line (state_of c.loop-line.running []) (state_of c.carry_out.new.running []) did.Moved local refl (moved [] []) ∙ c.loop-line.invariant.unit;
      goes = λ units e frames inputs. one_alone units c.args.unit.now c.in-Some.line.now c.args.running.now c.loop-line.running c.carry_out.new.running did.Moved frames inputs (ap (unit_at units) c.loop-line.invariant.unit ∙ e) there (c.loop-line.invariant.goes units e frames inputs) (moved units frames);
      past = λ h. past_calls [] c.args.unit.now c.in-Some.line.now (state_of c.loop-line.running []) (state_of c.carry_out.new.running []) did.Moved c.requires.ready there local refl (moved [] []);
    }

pub returns-in_default-clause-goes : goal.returns-in_default-clause-goes
returns-in_default-clause-goes c =
    let gone = sym (c.in_default.ensures.line ∙ ap (λ b. slice_get b c.loop-line.running.pc) c.as_slice.ensures) in
    λ units e frames inputs. end_alone units c.args.unit.now c.args.running.now c.loop-line.running c.loop-line.running frames inputs (ap (unit_at units) c.loop-line.invariant.unit ∙ e) gone (c.loop-line.invariant.goes units e frames inputs)

pub returns-in_default-2 : goal.returns-in_default-2
returns-in_default-2 c =
    let there = sym (c.in-Some.ensures.line ∙ ap (λ b. slice_get b c.loop-line.running.pc) c.as_slice.ensures) in
    let local = sym c.is_alone.ensures ∙ c.if-not-is_alone.false in
    let l = c.in-Some.line.now in
    let acted = c.in_ok-acted.acted in
    record {
      goes = λ units e frames inputs. one_alone units c.args.unit.now l c.args.running.now c.loop-line.running c.carry_out.new.running acted frames inputs (ap (unit_at units) c.loop-line.invariant.unit ∙ e) there (c.loop-line.invariant.goes units e frames inputs) (c.in_ok-acted.ensures.acts units frames);
      stands = stands_not c.args.unit.now acted c.carry_out.new.running c.in_default-2.not-Moved;
      past = keeps_past c.args.unit.now l c.args.running.now c.loop-line.running c.carry_out.new.running acted c.requires.ready there local (c.in_ok-acted.ensures.acts [] []);
      slots = c.carry_out.ensures.count ∙ c.loop-line.invariant.slots;
      unit = keeps_unit l c.args.running.now c.loop-line.running c.carry_out.new.running acted local c.loop-line.invariant.unit (c.in_ok-acted.ensures.acts [] []);
    }
