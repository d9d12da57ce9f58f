-- A run is told as its performer carries it out.
use Rattle.std.proofs.Common.{◌≡◌, ℕ, ◌+◌, true, nat_eq, List, [], ◌∷◌, ◌++◌, map, Some, None, refl, ap, ◌∙◌, eq-eqb}
use Rattle.std.proofs.lemmas.List.{map-append}
use Rattle.performer_kit.specs.declared.commands.RobotCommand.{RobotCommand}
use Rattle.performer_kit.specs.declared.commands.PenCommand.{PenCommand}
use Rattle.robot_field.specs.Board as field
use Rattle.robot_field.specs.Board.{Board}
use Rattle.draughtsman.specs.Pen as sheet
use Rattle.draughtsman.specs.Pen.{PenState}
use Rattle.actor_kit.specs.declared.messages.Note.TheVariants as note
use Rattle.actor_kit.specs.Folds.{after_all, given_by}
use Rattle.actor_kit.proofs.GivenMore.{given_append}
use Rattle.performer_actors.specs.Performing.{Behaviour, Task, Begins, Acts, report_on, leads, gives, notes_on, replies_in}
use Rattle.performer_actors.specs.RobotLaw.{robot, robot_task}
use Rattle.performer_actors.specs.PenLaw.{draughtsman, pen_task}
use Rattle.performer_actors.specs.Laws.{reports_on, robot_acts, pen_acts, RobotRunsAreTold, PenRunsAreTold}

same : (k : ℕ) → nat_eq k k ≡ true
same k = eq-eqb k k refl

module _ {Place C : Type 0} where
  acts : ℕ → ℕ → List C → List (Task Place C)
  acts run n [] = []
  acts run n (c ∷ cs) = Acts run (n + 1) c ∷ acts run (n + 1) cs

  told : (p : Behaviour Place C) (run n : ℕ) (place : Place) (cs : List C)
      → given_by (leads p) (gives p) (Some (record { run = run; done = n; place = place })) (acts run n cs) ≡ reports_on p run n place cs
  unfolding acts
  told p run n place [] = refl
  told p run n place (c ∷ cs) = rw (same run, same (n + 1)) (ap (λ l. note.Report (report_on p (record { run = run; done = n; place = place }) c) ∷ l) (told p run (n + 1) (p.next place c) cs))

  -- a run, whatever tasks came before it
  run_told : {T : Type 0} (p : Behaviour Place C) (read : T → Task Place C) (before later : List T) (t : T) (run : ℕ) (place : Place) (cs : List C)
      → read t ≡ Begins run place → map read later ≡ acts run 0 cs
      → notes_on p (map read (before ++ t ∷ later)) ≡ notes_on p (map read before) ++ reports_on p run 0 place cs
  run_told p read before later t run place cs begins goes_on =
      ap (notes_on p) (map-append read before (t ∷ later)) ∙ given_append (leads p) (gives p) None (map read before) (read t ∷ map read later)
      ∙ ap (λ l. notes_on p (map read before) ++ given_by (leads p) (gives p) (after_all (leads p) None (map read before)) l) (ap (λ x. x ∷ map read later) begins ∙ ap (λ l. Begins run place ∷ l) goes_on)
      ∙ ap (λ l. notes_on p (map read before) ++ l) (told p run 0 place cs)

robot_acts_are : (run n : ℕ) (cs : List RobotCommand) → map robot_task (robot_acts run n cs) ≡ acts {Place = Board} run n cs
unfolding acts
robot_acts_are run n [] = refl
robot_acts_are run n (c ∷ cs) = ap (λ l. Acts run (n + 1) c ∷ l) (robot_acts_are run (n + 1) cs)

robot_replies_are : (run n : ℕ) (at : Board) (cs : List RobotCommand) → replies_in (reports_on robot run n at cs) ≡ field.robot at cs
robot_replies_are run n at [] = refl
robot_replies_are run n at (c ∷ cs) = ap (λ l. field.reply_to at c ∷ l) (robot_replies_are run (n + 1) (field.board_after at c) cs)

pub robot_runs : RobotRunsAreTold
robot_runs = record {
  reports = λ before run at cs. run_told robot robot_task before (robot_acts run 0 cs) _ run at cs refl (robot_acts_are run 0 cs);
  replies = λ run at cs. robot_replies_are run 0 at cs;
}

pen_acts_are : (run n : ℕ) (cs : List PenCommand) → map pen_task (pen_acts run n cs) ≡ acts {Place = PenState} run n cs
unfolding acts
pen_acts_are run n [] = refl
pen_acts_are run n (c ∷ cs) = ap (λ l. Acts run (n + 1) c ∷ l) (pen_acts_are run (n + 1) cs)

pen_replies_are : (run n : ℕ) (at : PenState) (cs : List PenCommand) → replies_in (reports_on draughtsman run n at cs) ≡ sheet.pen at cs
pen_replies_are run n at [] = refl
pen_replies_are run n at (c ∷ cs) = ap (λ l. sheet.reply_of (sheet.drawn_by at c) ∷ l) (pen_replies_are run (n + 1) (sheet.state_after at c) cs)

pub pen_runs : PenRunsAreTold
pen_runs = record {
  reports = λ before run cs. run_told draughtsman pen_task before (pen_acts run 0 cs) _ run sheet.fresh cs refl (pen_acts_are run 0 cs);
  replies = λ run cs. pen_replies_are run 0 sheet.fresh cs;
}
