use Rattle.std.proofs.Common.{◌≡◌, ◌+◌, ◌≤◌, ℕ, List, [], Some, length}
use Rattle.km_base.specs.Limits.{script_bytes}
use Rattle.plain_run.specs.Runs.{ports}
use Rattle.script_lines.specs.Requests.{whole}
use Rattle.plain_run.specs.Sessions.{kept_in, IsSession}
use Rattle.plain_run.specs.Carried.{HasCarried}
use Rattle.plain_run.proofs.script.carry_pieces.Given as goal

abbrev pub invariant-loop-reader : goal.invariant-loop-reader
invariant-loop-reader g l = record {
  fed : List ℕ;
  read : l.reader ≡ Some fed;
  left : length fed + l.room ≡ script_bytes;
  carried : HasCarried (ports (g.I.Source.state l.fn.input) (g.I.Source.state l.input) (g.O.Sink.state l.fn.output) (g.O.Sink.state l.output)) [] fed (kept_in l.fn.session) (kept_in l.session);
  session : IsSession l.session;
  few : l.session.runs.count ≤ length (whole fed);
  source : (g.I.Source.state l.input).faults ≡ (g.I.Source.state l.fn.input).faults;
  sink : (g.O.Sink.state l.output).faults ≡ (g.O.Sink.state l.fn.output).faults;
}

abbrev pub decreases-loop-reader : goal.decreases-loop-reader
decreases-loop-reader g l = l.room
