use Rattle.std.proofs.Common.{true, false}
use Rattle.unit_grammar.proofs.Preludes.{prelude_none, prelude_more, is_so, other_at}
use Rattle.unit_grammar.proofs.structure.misplaced.Goals as goal

pub loop-placed-preserved : goal.loop-placed-preserved
loop-placed-preserved c =
    let xs = c.args.forms.now in
    let i = c.loop-placed.placed-index in
    let d = c.placed-item.result in
    prelude_more xs i d c.loop-placed-test.true c.loop-placed.invariant (is_so xs i d c.is_use.result true c.placed-item.is c.is_use.ensures c.if-not-is_use.false)

pub returns-then-not-is_use : goal.returns-then-not-is_use
returns-then-not-is_use c =
    let xs = c.args.forms.now in
    let i = c.loop-placed.placed-index in
    let d = c.placed-item.result in
    other_at xs i d c.loop-placed-test.true c.placed-item.is c.loop-placed.invariant (is_so xs i d c.is_use.result false c.placed-item.is c.is_use.ensures c.if-not-is_use.true)

pub loop-placed-init : goal.loop-placed-init
loop-placed-init c = prelude_none c.args.forms.now
