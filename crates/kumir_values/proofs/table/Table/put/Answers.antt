use Rattle.std.proofs.Common.{◌≡◌, ◌<◌, arith, rules, sym, subst, length, Some, None, set}
use Rattle.std.specs.Prelude.{if◌then◌else◌}
use Rattle.kumir_values.specs.Tables.{Grid, value_at, changed}
use Rattle.kumir_values.specs.Bounds.{inside, place}
use Rattle.kumir_values.proofs.Maps.{stored, placed, place_below}
use Rattle.kumir_values.proofs.table.Table.put.Goals as goal

pub index_mut-requires : goal.index_mut-requires
index_mut-requires c =
    let bounds = c.self.inside.bounds.items in
    let index = c.args.index.now in
    let f = subst (λ b. (if inside b index then Some (place b index) else None) ≡ Some c.in-Some.place) c.as_slice.ensures.value (sym c.in-Some.ensures) in
    let s = placed bounds index c.in-Some.place f in
    let below : c.in-Some.place < length c.self.inside.held.items = omega (arith, s.1, place_below bounds index s.0, c.self.invariant.full) in
    search rules

pub returns-clause-changed : goal.returns-clause-changed
returns-clause-changed c =
    let bounds = c.self.inside.bounds.items in
    let index = c.args.index.now in
    let f = subst (λ b. (if inside b index then Some (place b index) else None) ≡ Some c.in-Some.place) c.as_slice.ensures.value (sym c.in-Some.ensures) in
    let t : Grid = record { kind = c.self.inside.kind; bounds = bounds; held = c.self.inside.held.items } in
    let r = stored t index c.in-Some.place c.args.value f c.self.invariant.full in
    subst (λ (s : Grid). value_at (record t { held = set c.self.inside.held.items c.in-Some.place c.args.value }) ≡ changed (value_at s) index c.args.value) c.self.view_is r
