use Rattle.std.proofs.Common.{◌∙◌, refl, sym, ap, subst}
use Rattle.mail_link.specs.Ends.{TakeEnd}
use Rattle.actor_kit.specs.declared.messages.PenTask.{PenTask}
use Rattle.performer_actors.specs.PenLaw.{draughtsman, pen_task, PenKeeps}
use Rattle.performer_actors.specs.PenDue.{notes_due, is_over}
use Rattle.performer_actors.proofs.PenEvents.{lawful}
use Rattle.performer_actors.proofs.Tellings.{tells_task, tells_on}
use Rattle.performer_actors.proofs.pen.PenActorActor.turn.Goals as goal

pub invariant_of-self : goal.invariant_of-self
invariant_of-self g c =
    let e = c.carry_out.ensures in
    let d = c.in-Nothing.is in
    rw c.in-Some.ensures.taken
    (tells_task draughtsman pen_task notes_due is_over c.self.inside.ends.tasks.taken c.self.inside.begun c.carry_out.new.begun c.self.inside.ends.notes.sent
    c.self.inside.due c.carry_out.result c.in-Some.task (ap notes_due d) (ap is_over d) c.self.invariant e.stand e.notes e.over)

pub invariant_of-self-in-Report : goal.invariant_of-self-in-Report
invariant_of-self-in-Report g c =
    let d = c.in-Report.is in
    tells_on draughtsman _ c.self.inside.begun notes_due is_over _ _ c.self.inside.due c.send.new.due c.self.inside.ends.notes c.send.new.sender c.send.result
    (ap notes_due d) (ap is_over d) refl refl c.send.ensures c.self.invariant

pub invariant_of-self-in-Gone : goal.invariant_of-self-in-Gone
invariant_of-self-in-Gone g c =
    let d = c.in-Gone.is in
    tells_on draughtsman _ c.self.inside.begun notes_due is_over _ _ c.self.inside.due c.send-in-Gone.new.due c.self.inside.ends.notes c.send-in-Gone.new.sender c.send-in-Gone.result
    (ap notes_due d) (ap is_over d) refl refl c.send-in-Gone.ensures c.self.invariant

pub returns-in-Some-clause-law : goal.returns-in-Some-clause-law
returns-in-Some-clause-law g c first outside kept =
    let was : PenKeeps first c.self.inside.ends = subst (PenKeeps first) (sym c.self.view_is) kept in
    record {
      tasks_link = ap (λ (t : TakeEnd PenTask). t.link) c.in-Some.ensures.taken ∙ was.tasks_link;
      notes_link = was.notes_link;
      law = λ h. lawful _ _ _ (invariant_of-self g c);
    }
