-- What the Draughtsman's actor keeps says its law.
use Rattle.std.proofs.Common.{◌≤◌, length, Option, arith}
use Rattle.draughtsman.specs.Pen.{PenState}
use Rattle.performer_actors.specs.Performing.{Stand}
use Rattle.performer_actors.specs.PenLaw.{PenLaw}
use Rattle.performer_actors.specs.PenDue.{notes_due}
use Rattle.performer_actors.specs.PenInside.{IsPen}
use Rattle.performer_actors.specs.declared.ends.PenEnds.{PenEnds}
use Rattle.performer_actors.specs.declared.pen_run.PenDue.{PenDue}
use Rattle.performer_actors.specs.declared.pen_run.PenDue.TheVariants as due
use Rattle.performer_actors.proofs.Tellings.{sent_but}

few_notes : (d : PenDue) → length (notes_due d) ≤ 1
few_notes due.Nothing = omega arith
few_notes (due.Report report) = omega arith
few_notes due.Gone = omega arith
few_notes due.Over = omega arith

pub lawful : (begun : Option (Stand PenState)) (d : PenDue) (ends : PenEnds) → IsPen begun d ends → PenLaw ends
lawful begun d ends is = record { notes = sent_but _ _ _ is.all (few_notes d) }
