use Rattle.std.proofs.Common.{◌≡◌, ◌++◌, List, reverse, length}
use Rattle.script_lines.specs.declared.request.Request.{Request}
use Rattle.plain_run.specs.Plain.{PutsEntries}
use Rattle.plain_run.specs.Sessions.{kept_in, IsSession}
use Rattle.plain_run.specs.Carried.{Carries}
use Rattle.plain_run.proofs.plain.put_answers.Given as goal

abbrev pub invariant-loop-request : goal.invariant-loop-request
invariant-loop-request g l = record {
  done : List Request;
  rest : l.fn.requests ≡ done ++ reverse l.waiting;
  put : PutsEntries (λ es. Carries (kept_in l.fn.session) done es (kept_in l.session)) (g.O.Sink.state l.fn.output) (g.O.Sink.state l.output);
  session : IsSession l.session;
  stood : (g.O.Sink.state l.output).faults ≡ (g.O.Sink.state l.fn.output).faults;
}

abbrev pub decreases-loop-request : goal.decreases-loop-request
decreases-loop-request g l = length l.waiting
