use Rattle.std.proofs.Common.{◌∙◌, refl, sym, ap, subst}
use Rattle.mail_link.specs.Ends.{TakeEnd}
use Rattle.actor_kit.specs.declared.messages.RobotTask.{RobotTask}
use Rattle.performer_actors.specs.RobotLaw.{RobotKeeps}
use Rattle.performer_actors.specs.RobotDue.{notes_due, replies_due, is_over}
use Rattle.performer_actors.proofs.RobotEvents.{takes, tells, lawful}
use Rattle.performer_actors.proofs.robot.RobotActorActor.turn.Goals as goal

pub invariant_of-self : goal.invariant_of-self
invariant_of-self g c =
    let e = c.carry_out.ensures in
    takes c.self.inside.begun c.self.inside.due c.self.inside.ends c.in-Nothing.is c.self.invariant c.in-Some.task
    c.carry_out.new.begun c.carry_out.result c.take.new.self c.in-Some.ensures.taken e.stand e.notes e.replies e.over

pub invariant_of-self-in-Report : goal.invariant_of-self-in-Report
invariant_of-self-in-Report g c =
    let d = c.in-Report.is in
    tells c.self.inside.begun c.self.inside.due c.send.new.due _ c.self.inside.ends _ c.send.result c.send.new.sender
    (ap notes_due d) (ap is_over d) refl refl (sym (ap replies_due d)) c.self.invariant c.send.ensures

pub invariant_of-self-in-Gone : goal.invariant_of-self-in-Gone
invariant_of-self-in-Gone g c =
    let d = c.in-Gone.is in
    tells c.self.inside.begun c.self.inside.due c.send-in-Gone.new.due _ c.self.inside.ends _ c.send-in-Gone.result c.send-in-Gone.new.sender
    (ap notes_due d) (ap is_over d) refl refl (sym (ap replies_due d)) c.self.invariant c.send-in-Gone.ensures

pub returns-in-Some-clause-law : goal.returns-in-Some-clause-law
returns-in-Some-clause-law g c first outside kept =
    let was : RobotKeeps first c.self.inside.ends = subst (RobotKeeps first) (sym c.self.view_is) kept in
    record {
      tasks_link = ap (λ (t : TakeEnd RobotTask). t.link) c.in-Some.ensures.taken ∙ was.tasks_link;
      notes_link = was.notes_link;
      replies_link = was.replies_link;
      law = λ h. lawful _ _ _ (invariant_of-self g c);
    }
