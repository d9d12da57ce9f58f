-- Replies of a pen over lists of commands, and when it draws nothing.
use Rattle.std.proofs.Common.{◌≡◌, List, [], ◌∷◌, ◌++◌, refl, sym, ap, subst, ℤ, Bool, true, false, cond, ◌&&◌, not, ◌⊎◌, inl, inr, ⊎_elim, ◌↔◌, Some, None, IsNone}
use Rattle.std.specs.Ordering.{int_eq}
use Rattle.std.proofs.lemmas.Bool.Decides.{Decides-int_eq}
use Rattle.performer_kit.specs.declared.commands.PenCommand.TheVariants.{Raise, Lower, To, By}
use Rattle.performer_kit.specs.declared.commands.Segment.{Segment}
use Rattle.performer_kit.specs.declared.commands.PenCommand.{PenCommand}
use Rattle.draughtsman.specs.Pen.{PenState, pen, pen_end, state_after, drawn_by, reply_of, segment_to, place_after, DrawsNothing}
use Rattle.draughtsman.specs.Laws.{GoesOn}

pen-append : (s : PenState) (first second : List PenCommand) → pen s (first ++ second) ≡ pen s first ++ pen (pen_end s first) second
pen-append s [] second = refl
pen-append s (c ∷ cs) second = ap (λ replies. reply_of (drawn_by s c) ∷ replies) (pen-append (state_after s c) cs second)

pen_end-append : (s : PenState) (first second : List PenCommand) → pen_end s (first ++ second) ≡ pen_end (pen_end s first) second
pen_end-append s [] second = refl
pen_end-append s (c ∷ cs) second = pen_end-append (state_after s c) cs second

pub pen_goes_on : GoesOn
pen_goes_on = record { replies = pen-append; ends = pen_end-append }

none_gives : (d a b : Bool) (segment : Segment) → IsNone (cond (d && not (a && b)) (Some segment) None) → (d ≡ false) ⊎ ((a ≡ true) × (b ≡ true))
none_gives false a b segment none = inl refl
none_gives true true true segment none = inr (refl, refl)
none_gives true true false segment none = cc
none_gives true false b segment none = cc

none_if_up : (d c : Bool) (segment : Segment) → d ≡ false → IsNone (cond (d && c) (Some segment) None)
none_if_up d c segment up = subst (λ d. IsNone (cond (d && c) (Some segment) None)) (sym up) refl

none_if_same : (d a b : Bool) (segment : Segment) → a ≡ true → b ≡ true → IsNone (cond (d && not (a && b)) (Some segment) None)
none_if_same true true true segment p q = refl
none_if_same false true true segment p q = refl
none_if_same d false b segment p q = cc
none_if_same d true false segment p q = cc

-- no segment is drawn exactly where the pen is up or stays
segment_to-none : (s : PenState) (x y : ℤ) → IsNone (segment_to s x y) ↔ ((s.down ≡ false) ⊎ ((x ≡ s.x) × (y ≡ s.y)))
segment_to-none s x y =
    let x_same = Decides-int_eq x s.x in
    let y_same = Decides-int_eq y s.y in (
      λ none. ⊎_elim inl (λ same. inr (x_same.0 same.0, y_same.0 same.1)) (none_gives s.down (int_eq x s.x) (int_eq y s.y) _ none),
      ⊎_elim (none_if_up s.down _ _) (λ same. none_if_same s.down _ _ _ (x_same.1 same.0) (y_same.1 same.1)),
    )

-- a command draws nothing exactly where it is no move, or the pen is up or stays
pub drawn_by-none : (s : PenState) (command : PenCommand) → IsNone (drawn_by s command) ↔ DrawsNothing s command
drawn_by-none s Raise = (λ _. inl tt, λ _. (segment_to-none s s.x s.y).1 (inr (refl, refl)))
drawn_by-none s Lower = (λ _. inl tt, λ _. (segment_to-none s s.x s.y).1 (inr (refl, refl)))
drawn_by-none s (To x y) = let h = segment_to-none s x y in (λ none. inr (h.0 none), ⊎_elim (λ no. absurd no) h.1)
drawn_by-none s (By dx dy) =
    let h = segment_to-none s (place_after s (By dx dy)).0 (place_after s (By dx dy)).1 in (λ none. inr (h.0 none), ⊎_elim (λ no. absurd no) h.1)
