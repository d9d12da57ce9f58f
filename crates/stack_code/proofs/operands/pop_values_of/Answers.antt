use Rattle.std.proofs.Common.{◌≤◌, ◌-◌, length, get_or, arith, sym, ap, ◌∙◌}
use Rattle.std.specs.Prelude.{◌⊎◌, slice_get}
use Rattle.stack_code.specs.Operands.{value_kind, pop_some}
use Rattle.kumir_tree.specs.declared.kind.Mode.TheVariants.{Arg}
use Rattle.stack_code.specs.declared.unit.ParamSlot.{ParamSlot}
use Rattle.stack_code.proofs.Values.{values_end, missing}
use Rattle.stack_code.proofs.operands.pop_values_of.Goals as goal

pub loop-left-init : goal.loop-left-init
loop-left-init c =
    let short : (length c.args.params.now ≤ c.min-count.result) ⊎ (length c.args.places.now ≤ c.min-count.result) = grind (arith, c.min-count.ensures) in
    (omega (arith, c.min-count.ensures), omega (arith, c.min-count.ensures), values_end c.args.callee.now c.min-count.result c.args.params.now c.args.places.now c.args.kinds.now short)

pub returns-then-not-pop_of : goal.returns-then-not-pop_of
returns-then-not-pop_of c =
    let p : ParamSlot = record { mode = Arg; slot = 0 } in
    let none = c.if-not-pop_of.ensures {u = tt} in
    let shape = c.shape_at-shape.ensures ∙ ap (λ slots. slice_get slots (get_or c.args.params.now (c.loop-left.left - 1) p).slot) c.as_slice.ensures in
    let kind = c.value_kind_of.ensures ∙ ap value_kind shape in
    missing c.args.callee.now (c.loop-left.left - 1) c.loop-left.left c.args.params.now c.args.places.now c.args.kinds.now c.loop-left.kinds p c.index-places-left.result
    (omega (arith, c.loop-left-test.true)) c.loop-left.invariant.0 c.loop-left.invariant.1 c.index-places-left.is c.loop-left.invariant.2
    (sym c.takes_operand.ensures ∙ c.if-takes_operand.true)
    (ap (λ k. pop_some k c.loop-left.kinds) (sym kind) ∙ none)
