use Rattle.std.proofs.Common.{◌-◌, ◌*◌, ◌+◌, refl, sym, ap, ◌∙◌, subst, length, [], arith}
use Rattle.std.specs.Prelude.{slice_get}
use Rattle.stack_code.specs.Instructions.{unit_at}
use Rattle.machine_steps.specs.declared.acted.Acted.TheVariants as did
use Rattle.machine_steps.specs.States.{state_of}
use Rattle.machine_steps.specs.Quick.{at_place, ComesBy}
use Rattle.machine_steps.proofs.EventSteps.{steps_to_none}
use Rattle.machine_steps.proofs.JumpsFit.{falls, past_calls, same_unit}
use Rattle.machine_steps.proofs.NeededSteps.{needs_none}
use Rattle.machine_steps.proofs.QuickRuns.{step_stands, one_more, one_more_needed, comes_on, fewer_left, as_many_left}
use Rattle.machine_steps.proofs.silent.run_quickly.Goals as goal

pub loop-line-init : goal.loop-line-init
loop-line-init c = record {
  slots = refl;
  unit = refl;
  few = omega arith;
  comes = λ units e frames inputs. steps_to_none units _;
  needed = λ units e frames inputs. needs_none units _;
  past = λ none h. h;
}

pub loop-line-smaller-in-Some-quick : goal.loop-line-smaller-in-Some-quick
loop-line-smaller-in-Some-quick c =
    let there = sym (c.in-Some.ensures.line ∙ ap (λ b. slice_get b c.loop-line.pc) c.as_slice.ensures) in
    let l = c.in-Some.line.now in
    as_many_left ((c.args.most - c.loop-line.taken) * (length c.args.unit.now.body + 2)) _ _
    (falls [] c.args.unit.now l (state_of (at_place c.loop-line.running c.loop-line.pc) []) (state_of (at_place c.quick.new.running c.in-Some-quick.next) []) did.Moved c.requires.ready there c.in-Some-quick.ensures.local refl (c.in-Some-quick.ensures.goes [] l.line []))

pub loop-line-smaller : goal.loop-line-smaller
loop-line-smaller c = fewer_left c.args.unit.now c.args.most c.loop-line.taken c.loop-line.pc (c.loop-line.pc + 1) c.loop-line.invariant.few c.if-taken-most.false

pub loop-line-preserved-in-Some-quick : goal.loop-line-preserved-in-Some-quick
loop-line-preserved-in-Some-quick c =
    let there = sym (c.in-Some.ensures.line ∙ ap (λ b. slice_get b c.loop-line.pc) c.as_slice.ensures) in
    let l = c.in-Some.line.now in
    let local = c.in-Some-quick.ensures.local in
    let goes = c.in-Some-quick.ensures.goes in
    let before = at_place c.loop-line.running c.loop-line.pc in
    let after = at_place c.quick.new.running c.in-Some-quick.next in
    let i = c.loop-line.invariant in
    record {
      slots = c.quick.ensures.count ∙ i.slots;
      unit = same_unit [] l.what l.line (state_of before []) (state_of after []) did.Moved local refl (goes [] l.line []) ∙ i.unit;
      few = i.few;
      comes = λ units e. comes_on units c.args.unit.now l c.args.running.now before after c.loop-line.taken (ap (unit_at units) i.unit ∙ e) there (i.comes units e) (λ frames. goes units l.line frames);
      needed = i.needed;
      past = λ none h. past_calls [] c.args.unit.now l (state_of before []) (state_of after []) did.Moved c.requires.ready there local refl (goes [] l.line []);
    }

pub loop-line-preserved : goal.loop-line-preserved
loop-line-preserved c =
    let there = sym (c.in-Some.ensures.line ∙ ap (λ b. slice_get b c.loop-line.pc) c.as_slice.ensures) in
    let stands = step_stands c.args.unit.now c.loop-line.pc c.in-Some.line.now there (c.if-not-is_step_line.ensures refl) in
    let kept = c.in-None.ensures.goes in
    let i = c.loop-line.invariant in
    let few = i.few in
    let other = c.if-taken-most.false in
    record {
      slots = c.quick.ensures.count ∙ i.slots;
      unit = ap (λ r. r.unit) kept ∙ i.unit;
      few = omega (arith, few, other);
      comes = λ units e. subst (λ r. ComesBy units (c.loop-line.taken + 1) c.args.running.now (at_place r (c.loop-line.pc + 1))) (sym kept)
          (one_more units c.args.unit.now c.args.running.now c.loop-line.running c.loop-line.pc c.loop-line.taken (ap (unit_at units) i.unit ∙ e) stands (i.comes units e));
      needed = λ units e. one_more_needed units c.args.unit.now c.args.running.now c.loop-line.running c.loop-line.pc c.loop-line.taken (ap (unit_at units) i.unit ∙ e) stands (i.comes units e) (i.needed units e);
      past = λ none h. absurd (let wrong : ⊥ = omega (arith, none) in wrong);
    }
