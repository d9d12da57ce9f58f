use Rattle.std.proofs.Common.{refl, subst}
use Rattle.machine_steps.specs.Replying.{Answers}
use Rattle.machine_steps.specs.Stages.{full_state_of}
use Rattle.kumir_machine.specs.ActiveRuns.{Behind, AtWall}
use Rattle.kumir_machine.proofs.active.go_on_behind.Goals as goal

pub returns-in-Ok-None-clause-goes : goal.returns-in-Ok-None-clause-goes
returns-in-Ok-None-clause-goes c =
    let units = c.args.units.now in
    Behind (full_state_of units c.take_reply.new.stage)
    (subst (λ o. Answers units (full_state_of units c.args.run.now.stage) c.args.question c.args.reply o (full_state_of units c.take_reply.new.stage)) c.in-Ok-None.field-0-is c.in-Ok-None.ensures.answers)
    c.go_on.ensures.goes

pub returns-in-Ok-Some-clause-goes : goal.returns-in-Ok-Some-clause-goes
returns-in-Ok-Some-clause-goes c =
    let units = c.args.units.now in
    AtWall c.in-Ok-Some.end
    (subst (λ o. Answers units (full_state_of units c.args.run.now.stage) c.args.question c.args.reply o (full_state_of units c.take_reply.new.stage)) c.in-Ok-Some.field-0-is c.in-Ok-Some.ensures.answers)
    refl refl refl
