use Rattle.std.proofs.Common.{arith, length-drop}
use Rattle.km_ports.proofs.PortLaws.{PutsInto-then, take-then, take-behind}
use Rattle.km_ports.proofs.whole.put_all.Goals as goal

pub loop-at-preserved : goal.loop-at-preserved
loop-at-preserved g c =
    let within = simp (take-behind, length-drop) at c.in_ok-at.ensures.within in
    record {
      within = omega arith;
      bytes = rw (take-then c.args.bytes.now c.loop-at.at c.in_ok-at.field-0) at (PutsInto-then (g.O.Sink.state c.args.output.now) (g.O.Sink.state c.loop-at.output) (g.O.Sink.state c.put.new.self) _ _ c.loop-at.invariant.bytes c.in_ok-at.ensures.bytes);
      count = cc c.in_ok-at.ensures.cause;
    }
