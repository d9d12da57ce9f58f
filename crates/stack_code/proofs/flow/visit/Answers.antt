use Rattle.std.proofs.Common.{◌≡◌, ◌≤◌, length, get_or, Some, sym, ap, ◌∙◌, subst, arith}
use Rattle.std.specs.Prelude.{slice_get}
use Rattle.std.proofs.lemmas.Option.{slice_get-get_or}
use Rattle.stack_code.specs.declared.instruction.CodeLine.{CodeLine}
use Rattle.stack_code.specs.Operands.{kinds_after}
use Rattle.stack_code.specs.Checking.{Applies, MeetsSome, Visits}
use Rattle.stack_code.proofs.Visits.{first_clash, visited, not_clash, is_clash}
use Rattle.stack_code.proofs.flow.visit.Goals as goal

pub returns-then-is_clash : goal.returns-then-is_clash
returns-then-is_clash c =
    let l : CodeLine = get_or c.as_slice.result.now c.args.place c.index-as_slice-place.result in
    let within = c.requires.within in
    let size = ap length c.as_slice.ensures in
    let line : slice_get c.args.unit.now.body c.args.place ≡ Some l = ap (λ b. slice_get b c.args.place) (sym c.as_slice.ensures) ∙ slice_get-get_or c.as_slice.result.now c.args.place c.index-as_slice-place.result (omega (arith, within, size)) in
    let after = subst (λ b. Applies b (kinds_after c.args.units.now c.args.unit.now l.what c.in-Some.kinds) c.apply.new.kinds) c.if-not-branch.false c.in_ok-apply.ensures in
    let met = subst (λ o. MeetsSome c.args.found.now.items o c.apply.new.kinds c.in_ok-first.first c.meet_some.new.found.items) c.next_place.ensures c.in_ok-first.ensures in
    first_clash c.args.units.now c.args.unit.now c.args.place c.args.found.now.items c.meet_some.new.found.items c.in-Some.kinds c.apply.new.kinds l c.in_ok-first.first c.requires.size
    (sym c.in_ok-kinds.ensures ∙ c.in-Some.is) line after met (is_clash c.in_ok-first.first (sym c.is_clash.ensures ∙ c.if-is_clash.true))

pub returns : goal.returns
returns c =
    let l : CodeLine = get_or c.as_slice.result.now c.args.place c.index-as_slice-place.result in
    let within = c.requires.within in
    let size = ap length c.as_slice.ensures in
    let line : slice_get c.args.unit.now.body c.args.place ≡ Some l = ap (λ b. slice_get b c.args.place) (sym c.as_slice.ensures) ∙ slice_get-get_or c.as_slice.result.now c.args.place c.index-as_slice-place.result (omega (arith, within, size)) in
    let after = subst (λ b. Applies b (kinds_after c.args.units.now c.args.unit.now l.what c.in-Some.kinds) c.apply.new.kinds) c.if-not-branch.false c.in_ok-apply.ensures in
    let met = subst (λ o. MeetsSome c.args.found.now.items o c.apply.new.kinds c.in_ok-first.first c.meet_some.new.found.items) c.next_place.ensures c.in_ok-first.ensures in
    let met2 = subst (λ o. MeetsSome c.meet_some.new.found.items o c.apply.new.kinds c.in_ok-second.second c.meet_some-2.new.found.items) c.target_place.ensures c.in_ok-second.ensures in
    let count = c.count.ensures in
    let few = c.if-count-unit.false in
    let deep : length c.in-Some.kinds ≤ c.args.unit.now.depth = omega (arith, count, few) in
    subst (λ m. Visits c.args.units.now c.args.unit.now c.args.place c.args.found.now.items m c.meet_some-2.new.found.items) (sym c.both_met.ensures)
    (visited c.args.units.now c.args.unit.now c.args.place c.args.found.now.items c.meet_some.new.found.items c.meet_some-2.new.found.items c.in-Some.kinds c.apply.new.kinds l c.in_ok-first.first c.in_ok-second.second c.requires.size
    (sym c.in_ok-kinds.ensures ∙ c.in-Some.is) line deep after met (not_clash c.in_ok-first.first (sym c.is_clash.ensures ∙ c.if-is_clash.false)) met2)
