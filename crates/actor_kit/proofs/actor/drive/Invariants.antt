use Rattle.actor_kit.proofs.actor.drive.Given as goal

abbrev pub invariant-loop : goal.invariant-loop
invariant-loop g l = g.A.Actor.law l.initial.actor l.initial.outside l.actor l.outside
