use Rattle.std.proofs.Common.{◌≡◌, ◌<◌, arith, rules, ap, ◌∙◌, sym, subst, length, Some, None, Ok}
use Rattle.std.specs.Prelude.{if◌then◌else◌}
use Rattle.std.proofs.lemmas.List.{get_or_default}
use Rattle.kumir_values.specs.Tables.{Grid, read_at, IsOfKind}
use Rattle.kumir_values.specs.Bounds.{inside, place}
use Rattle.kumir_values.proofs.Maps.{read, placed, place_below}
use Rattle.kumir_values.proofs.table.Table.get.Goals as goal

pub index-requires : goal.index-requires
index-requires c =
    let bounds = c.self.inside.bounds.items in
    let index = c.args.index.now in
    let f = subst (λ b. (if inside b index then Some (place b index) else None) ≡ Some c.in-Some.place) c.as_slice.ensures.value (sym c.in-Some.ensures) in
    let s = placed bounds index c.in-Some.place f in
    let below : c.in-Some.place < length c.self.inside.held.items = omega (arith, s.1, place_below bounds index s.0, c.self.invariant.full) in
    search rules

pub returns-in-Some-index-clause-answer : goal.returns-in-Some-index-clause-answer
returns-in-Some-index-clause-answer c =
    let bounds = c.self.inside.bounds.items in
    let index = c.args.index.now in
    let f = subst (λ b. (if inside b index then Some (place b index) else None) ≡ Some c.in-Some.place) c.as_slice.ensures.value (sym c.in-Some.ensures) in
    let s = placed bounds index c.in-Some.place f in
    let below : c.in-Some.place < length c.self.inside.held.items = omega (arith, s.1, place_below bounds index s.0, c.self.invariant.full) in
    let h = get_or_default c.self.inside.held.items c.in-Some.place None c.index.result.now below ∙ sym c.index.ensures ∙ c.in-Some-index.is in
    let t : Grid = record { kind = c.self.inside.kind; bounds = bounds; held = c.self.inside.held.items } in
    let r = read t index c.in-Some.place (Some c.in-Some-index.value) f h in
    subst (λ t. Ok c.in-Some-index.value ≡ read_at t index) c.self.view_is r

pub returns-in-Some-index-clause-of_kind : goal.returns-in-Some-index-clause-of_kind
returns-in-Some-index-clause-of_kind c =
    let bounds = c.self.inside.bounds.items in
    let index = c.args.index.now in
    let f = subst (λ b. (if inside b index then Some (place b index) else None) ≡ Some c.in-Some.place) c.as_slice.ensures.value (sym c.in-Some.ensures) in
    let s = placed bounds index c.in-Some.place f in
    let below : c.in-Some.place < length c.self.inside.held.items = omega (arith, s.1, place_below bounds index s.0, c.self.invariant.full) in
    let h = get_or_default c.self.inside.held.items c.in-Some.place None c.index.result.now below ∙ sym c.index.ensures ∙ c.in-Some-index.is in
    let k = subst (IsOfKind c.self.inside.kind) h (c.self.invariant.kinds c.in-Some.place) in
    k ∙ ap (λ (t : Grid). t.kind) c.self.view_is
