use Rattle.type_check.specs.Placed.{units_in}
use Rattle.plain_run.specs.Performing.{performers_in}
use Rattle.plain_run.proofs.Courses.{job_of, IsUnderWay, left_of}
use Rattle.plain_run.proofs.run.put_trace.Given as goal

abbrev pub invariant-loop-text : goal.invariant-loop-text
invariant-loop-text g l =
    IsUnderWay (job_of (units_in l.fn.program) l.fn.inputs l.fn.field l.fn.budget l.fn.run) (g.O.Sink.state l.fn.output) (g.O.Sink.state l.output) (performers_in l.performing) l.machine

abbrev pub decreases-loop-text : goal.decreases-loop-text
decreases-loop-text g l = left_of (job_of (units_in l.fn.program) l.fn.inputs l.fn.field l.fn.budget l.fn.run) l.machine
