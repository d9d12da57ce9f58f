use Rattle.std.proofs.Common.{◌++◌, arith, length-append}
use Rattle.km_ports.proofs.PortLaws.{TakesFrom-then}
use Rattle.km_ports.proofs.whole.read_within.Goals as goal

pub returns-in_err-count-clause-taken : goal.returns-in_err-count-clause-taken
returns-in_err-count-clause-taken g c =
    let t = c.in_err-count.ensures.taken in
    let size = length-append c.loop-found.found.items t.0 in
    (c.loop-found.found.items ++ t.0, omega (arith, c.loop-found.found.ok), TakesFrom-then (g.I.Source.state c.args.input.now) (g.I.Source.state c.loop-found.input) (g.I.Source.state c.read_more.new.input) _ _ c.loop-found.invariant.bytes t.2)
