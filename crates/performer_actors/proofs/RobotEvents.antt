-- Each thing that the Robot's actor does keeps what it keeps.
use Rattle.std.proofs.Common.{◌≡◌, ◌≤◌, [], ◌∷◌, ◌++◌, false, length, map, Option, sym, ap, ◌∙◌, append-nil, arith}
use Rattle.robot_field.specs.Board.{Board}
use Rattle.mail_link.specs.Ends.{SendEnd, TakeEnd, received}
use Rattle.actor_kit.specs.declared.actor.Turn.{Turn}
use Rattle.actor_kit.specs.declared.messages.RobotTask.{RobotTask}
use Rattle.actor_kit.specs.declared.messages.Note.{Note}
use Rattle.performer_actors.specs.Performing.{Stand, leads, gives, replies_in, is_gone}
use Rattle.performer_actors.specs.RobotLaw.{robot, robot_task, robot_notes, RobotLaw}
use Rattle.performer_actors.specs.RobotDue.{notes_due, replies_due, is_over}
use Rattle.performer_actors.specs.RobotInside.{IsRobot}
use Rattle.performer_actors.specs.Sends.{Sends}
use Rattle.performer_actors.specs.declared.ends.RobotEnds.{RobotEnds}
use Rattle.performer_actors.specs.declared.robot_run.RobotDue.{RobotDue}
use Rattle.performer_actors.specs.declared.robot_run.RobotDue.TheVariants as due
use Rattle.performer_actors.proofs.Tellings.{sent_but, replies_in-append, notes_on_more, tells_task, same_due, tells_on}

few_notes : (d : RobotDue) → length (notes_due d) ≤ 1
few_notes due.Nothing = omega arith
few_notes (due.Report report) = omega arith
few_notes (due.Reply reply) = omega arith
few_notes due.Gone = omega arith
few_notes due.Over = omega arith

few_replies : (d : RobotDue) → length (replies_due d) ≤ 1
few_replies due.Nothing = omega arith
few_replies (due.Report report) = omega arith
few_replies (due.Reply reply) = omega arith
few_replies due.Gone = omega arith
few_replies due.Over = omega arith

-- what the actor keeps says the law
pub lawful : (begun : Option (Stand Board)) (d : RobotDue) (ends : RobotEnds) → IsRobot begun d ends → RobotLaw ends
lawful begun d ends is = record { notes = sent_but _ _ _ is.tells.all (few_notes d); replies = sent_but _ _ _ is.replies (few_replies d) }

-- a task was taken and carried out
pub takes : (begun : Option (Stand Board)) (d : RobotDue) (ends : RobotEnds) → d ≡ due.Nothing → IsRobot begun d ends
    → (t : RobotTask) (begun' : Option (Stand Board)) (d' : RobotDue) (tasks : TakeEnd RobotTask)
    → tasks ≡ received ends.tasks t → begun' ≡ leads robot begun (robot_task t)
    → notes_due d' ≡ gives robot begun (robot_task t) → replies_due d' ≡ replies_in (gives robot begun (robot_task t)) → is_over d' ≡ false
    → IsRobot begun' d' (record { tasks = tasks; replies = ends.replies; notes = ends.notes })
takes begun d ends nothing was t begun' d' tasks got stand notes replies over = rw got (record {
  tells = tells_task robot robot_task notes_due is_over ends.tasks.taken begun begun' ends.notes.sent d d' t (ap notes_due nothing) (ap is_over nothing) was.tells stand notes over;
  replies =
      ap (λ l. ends.replies.sent ++ l) replies ∙ ap (λ l. l ++ replies_in (gives robot begun (robot_task t))) (sym (append-nil ends.replies.sent) ∙ ap (λ x. ends.replies.sent ++ replies_due x) (sym nothing) ∙ was.replies)
      ∙ sym (replies_in-append (robot_notes ends.tasks.taken) (gives robot begun (robot_task t))) ∙ ap replies_in (ap (λ s. robot_notes ends.tasks.taken ++ gives robot s (robot_task t)) was.tells.stand ∙ sym (notes_on_more robot robot_task ends.tasks.taken t));
})

-- the note that is due was sent, or refused
pub tells : (begun : Option (Stand Board)) (d d' behind : RobotDue) (ends : RobotEnds) (n : Note) (turn : Turn) (notes : SendEnd Note)
    → notes_due d ≡ n ∷ [] → is_over d ≡ false → notes_due behind ≡ [] → is_over behind ≡ is_gone n → replies_due behind ≡ replies_due d
    → IsRobot begun d ends → Sends n behind ends.notes d turn notes d'
    → IsRobot begun d' (record { tasks = ends.tasks; replies = ends.replies; notes = notes })
tells begun d d' behind ends n turn notes is_due early after gone same was sends = record {
  tells = tells_on robot (map robot_task ends.tasks.taken) begun notes_due is_over n behind d d' ends.notes notes turn is_due early after gone sends was.tells;
  replies = ap (λ l. ends.replies.sent ++ l) (same_due replies_due n behind d d' ends.notes notes turn same sends) ∙ was.replies;
}
