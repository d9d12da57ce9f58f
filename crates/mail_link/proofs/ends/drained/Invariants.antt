use Rattle.crossbeam_queue.specs.Passes.{view, IsPassOf}
use Rattle.mail_link.proofs.Draining.{Draining}
use Rattle.mail_link.proofs.ends.drained.Given as goal

abbrev pub invariant-loop : goal.invariant-loop
invariant-loop g l = IsPassOf l.queue l.pass × Draining (view l.fn.pass) (view l.pass) l.count
