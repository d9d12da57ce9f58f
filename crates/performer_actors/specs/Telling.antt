-- How a performer's actor stands: what it has told, and has still to tell, of the tasks that it took.
use Rattle.std.specs.Prelude.{◌≡◌, Bool, List, ◌++◌, Option, None}
use Rattle.actor_kit.specs.declared.messages.Note.{Note}
use Rattle.actor_kit.specs.Folds.{after_all}
use Rattle.performer_actors.specs.Performing.{Behaviour, Task, Stand, leads, notes_on, has_gone}

-- it stands where the tasks taken lead; the notes sent, and then those that are due, are what they give; and it is over
-- once `Gone` was sent
pub record Tells {Place C : Type 0} (p : Behaviour Place C) (tasks : List (Task Place C)) (begun : Option (Stand Place)) (notes due : List Note) (over : Bool) : Type 0 where
  pub stand : begun ≡ after_all (leads p) None tasks
  pub all : notes ++ due ≡ notes_on p tasks
  pub gone : has_gone notes ≡ over
