-- What a performer's actor has told, after one more task was taken, and after a note was sent or refused.
use Rattle.std.proofs.Common.{◌≡◌, ◌≤◌, Bool, false, List, [], ◌∷◌, ◌++◌, length, map, Option, None, refl, sym, ap, ◌∙◌, subst, append-nil}
use Rattle.std.proofs.lemmas.List.{map-append}
use Rattle.mail_link.specs.Ends.{SendEnd}
use Rattle.actor_kit.specs.declared.actor.Turn.{Turn}
use Rattle.actor_kit.specs.declared.actor.Turn.TheVariants.{Worked, Idle, Ended}
use Rattle.actor_kit.specs.declared.messages.Note.{Note}
use Rattle.actor_kit.specs.declared.messages.Note.TheVariants as note
use Rattle.actor_kit.specs.Folds.{after_all}
use Rattle.actor_kit.specs.Sending.{SentButLast}
use Rattle.actor_kit.proofs.GivenMore.{after_one_more, given_one_more}
use Rattle.performer_actors.specs.Performing.{Behaviour, Task, Stand, leads, gives, notes_on, replies_in, is_gone, has_gone}
use Rattle.performer_actors.specs.Telling.{Tells}
use Rattle.performer_actors.specs.Sends.{Sends}

-- ---- lists

pub replies_in-append : (xs ys : List Note) → replies_in (xs ++ ys) ≡ replies_in xs ++ replies_in ys
replies_in-append [] ys = refl
replies_in-append (note.Report report ∷ xs) ys = ap (λ l. report.reply ∷ l) (replies_in-append xs ys)
replies_in-append (note.Gone ∷ xs) ys = replies_in-append xs ys

has_gone-last : (xs : List Note) (n : Note) → has_gone xs ≡ false → has_gone (xs ++ n ∷ []) ≡ is_gone n
has_gone-last [] (note.Report report) e = refl
has_gone-last [] note.Gone e = refl
has_gone-last (note.Report report ∷ xs) n e = has_gone-last xs n e
has_gone-last (note.Gone ∷ xs) n e = absurd cc

-- all but what is due was sent
pub sent_but : {T : Type 0} (sent due all : List T) → sent ++ due ≡ all → length due ≤ 1 → SentButLast sent all
sent_but sent due all e few = record { unsent = due; all_are = sym e; few = few }

-- ---- tasks

module _ {T Place C : Type 0} (p : Behaviour Place C) (read : T → Task Place C) where
  pub notes_on_more : (tasks : List T) (t : T) → notes_on p (map read (tasks ++ t ∷ [])) ≡ notes_on p (map read tasks) ++ gives p (after_all (leads p) None (map read tasks)) (read t)
  notes_on_more tasks t = ap (notes_on p) (map-append read tasks (t ∷ [])) ∙ given_one_more (leads p) (gives p) None (map read tasks) (read t)

  tells_more : (tasks : List T) (begun : Option (Stand Place)) (notes : List Note) (over : Bool) → Tells p (map read tasks) begun notes [] over
      → (t : T) (begun' : Option (Stand Place)) (due : List Note) → begun' ≡ leads p begun (read t) → due ≡ gives p begun (read t)
      → Tells p (map read (tasks ++ t ∷ [])) begun' notes due over
  tells_more tasks begun notes over was t begun' due stand given = record {
    stand =
        stand ∙ ap (λ s. leads p s (read t)) was.stand ∙ sym (after_one_more (leads p) None (map read tasks) (read t))
        ∙ sym (ap (after_all (leads p) None) (map-append read tasks (t ∷ [])));
    all =
        ap (λ l. notes ++ l) given ∙ ap (λ l. l ++ gives p begun (read t)) (sym (append-nil notes) ∙ was.all)
        ∙ ap (λ s. notes_on p (map read tasks) ++ gives p s (read t)) was.stand ∙ sym (notes_on_more tasks t);
    gone = was.gone;
  }

  -- where nothing was due, a task was taken and carried out
  pub tells_task : {D : Type 0} (owes : D → List Note) (over : D → Bool) (tasks : List T) (begun begun' : Option (Stand Place)) (notes : List Note) (due due' : D) (t : T)
      → owes due ≡ [] → over due ≡ false → Tells p (map read tasks) begun notes (owes due) (over due)
      → begun' ≡ leads p begun (read t) → owes due' ≡ gives p begun (read t) → over due' ≡ false
      → Tells p (map read (tasks ++ t ∷ [])) begun' notes (owes due') (over due')
  tells_task owes over tasks begun begun' notes due due' t nothing going was stand given early =
      let before : Tells p (map read tasks) begun notes [] (over due) = subst (λ l. Tells p (map read tasks) begun notes l (over due)) nothing was in
      subst (λ b. Tells p (map read (tasks ++ t ∷ [])) begun' notes (owes due') b) (going ∙ sym early) (tells_more tasks begun notes (over due) before t begun' (owes due') stand given)

-- ---- sending

-- what is the same of both that are due is so of what is due then
pub same_due : {T D X : Type 0} (f : D → X) (item : T) (behind due due' : D) (sender sender' : SendEnd T) (turn : Turn)
    → f behind ≡ f due → Sends item behind sender due turn sender' due' → f due' ≡ f due
same_due f item behind due due' sender sender' Worked same sends = ap f sends.1 ∙ same
same_due f item behind due due' sender sender' Idle same sends = ap f sends.1
same_due f item behind due due' sender sender' Ended same sends = absurd sends

-- the note that is due was sent, or refused
pub tells_on : {Place C D : Type 0} (p : Behaviour Place C) (tasks : List (Task Place C)) (begun : Option (Stand Place)) (owes : D → List Note) (over : D → Bool)
    → (n : Note) (behind due due' : D) (sender sender' : SendEnd Note) (turn : Turn)
    → owes due ≡ n ∷ [] → over due ≡ false → owes behind ≡ [] → over behind ≡ is_gone n
    → Sends n behind sender due turn sender' due' → Tells p tasks begun sender.sent (owes due) (over due) → Tells p tasks begun sender'.sent (owes due') (over due')
tells_on p tasks begun owes over n behind due due' sender sender' Worked is_due early after gone sends was = rw (sends.0, sends.1) (record {
  stand = was.stand;
  all = ap (λ l. (sender.sent ++ n ∷ []) ++ l) after ∙ append-nil (sender.sent ++ n ∷ []) ∙ ap (λ l. sender.sent ++ l) (sym is_due) ∙ was.all;
  gone = has_gone-last sender.sent n (was.gone ∙ early) ∙ sym gone;
})
tells_on p tasks begun owes over n behind due due' sender sender' Idle is_due early after gone sends was = rw (sends.0, sends.1) (record { stand = was.stand; all = was.all; gone = was.gone })
tells_on p tasks begun owes over n behind due due' sender sender' Ended is_due early after gone sends was = absurd sends
