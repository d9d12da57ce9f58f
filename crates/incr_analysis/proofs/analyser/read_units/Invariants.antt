use Rattle.std.proofs.Common.{◌≡◌, true, take, length, ◌++◌, List, ℕ}
use Rattle.kumir_tree.specs.Units.{units_of}
use Rattle.incr_analysis.specs.Full.{Along, IsReadAt}
use Rattle.incr_analysis.specs.Answers.{IsSoundAt}
use Rattle.incr_analysis.proofs.analyser.read_units.Given as goal

abbrev pub invariant-loop-i : goal.invariant-loop-i
invariant-loop-i g l = record {
  read : Along (IsReadAt l.lines) true (take l.i l.spans) (units_of l.units);
  sound : Along (IsSoundAt (length l.lines)) true (take l.i l.spans) (units_of l.units);
  seen : (came : List ℕ) × (g.S.Stop.seen l.stop ≡ g.S.Stop.seen l.fn.stop ++ came);
  name : g.S.Stop.name l.stop ≡ g.S.Stop.name l.fn.stop;
}
