use Rattle.std.proofs.Common.{sym, subst}
use Rattle.kumir_machine.specs.ActiveRuns.{Moves}
use Rattle.kumir_machine.proofs.active.move_on.Goals as goal

pub returns-in-Replied-clause-moves : goal.returns-in-Replied-clause-moves
returns-in-Replied-clause-moves c =
    subst (λ p. Moves c.args.units.now c.args.budget c.args.most p c.args.run.now c.go_on_behind.result c.go_on_behind.new.run) (sym c.in-Replied.is) c.go_on_behind.ensures.goes
