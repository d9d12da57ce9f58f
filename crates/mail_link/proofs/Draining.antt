-- What `drained` keeps from turn to turn.
use Rattle.std.proofs.Common.{◌≡◌, ℕ, ◌+◌, ◌≤◌, ◌<◌, true, List, [], ◌∷◌, ◌++◌, length, sym, refl, ap, ◌∙◌, append_assoc, arith}
use Rattle.std.proofs.lemmas.List.{append-nil, length-append, append_cancel_left}
use Rattle.crossbeam_queue.specs.Fifo.{Held}
use Rattle.mail_link.specs.declared.rule.Log.{Log}
use Rattle.mail_link.specs.Linked.{log}
use Rattle.mail_link.specs.Ends.{Delivered}

-- the view now, from the view at first, after `count` items were taken out
pub record Draining {T : Type 0} (first now : Log T) (count : ℕ) : Type 0 where
  pub sends : now.sends ≡ true
  pub takes : now.takes ≡ true
  pub sent : now.sent ≡ first.sent
  pub items : List T
  pub taken : now.taken ≡ first.taken ++ items
  pub counted : length items ≡ count

module _ {T : Type 0} where
  pub draining_first : (first now : Log T) → now ≡ first → first.sends ≡ true → first.takes ≡ true → Draining first now 0
  draining_first first now e sends takes = rw e (record { sends = sends; takes = takes; sent = refl; items = []; taken = sym (append-nil first.taken); counted = refl })

  pub draining_next : (first now next : Log T) (count : ℕ) (x : T) → Draining first now count → next ≡ log now.sends now.takes now.sent (now.taken ++ x ∷ []) → Draining first next (count + 1)
  draining_next first now next count x d e = rw e (record {
    sends = d.sends;
    takes = d.takes;
    sent = d.sent;
    items = d.items ++ x ∷ [];
    taken = ap (λ l. l ++ x ∷ []) d.taken ∙ append_assoc first.taken d.items (x ∷ []);
    counted = length-append d.items (x ∷ []) ∙ ap (λ n. n + 1) d.counted;
  })

  -- an item that came was one of those that waited
  pub draining_below : (first now : Log T) (count most : ℕ) (x : T) (rest : List T) → Draining first now count → Held most (λ items. first.sent ≡ first.taken ++ items) → now.sent ≡ now.taken ++ x ∷ rest → count < most
  draining_below first now count most x rest d held e =
      let same : first.taken ++ held.0 ≡ first.taken ++ (d.items ++ x ∷ rest) = sym held.2 ∙ sym d.sent ∙ e ∙ ap (λ l. l ++ x ∷ rest) d.taken ∙ append_assoc first.taken d.items (x ∷ rest) in
      omega (arith, d.counted, held.1, ap length (append_cancel_left first.taken held.0 (d.items ++ x ∷ rest) same), length-append d.items (x ∷ rest))

  pub draining_done : (first now : Log T) (count : ℕ) → Draining first now count → Held 0 (λ items. now.sent ≡ now.taken ++ items) → Delivered first.sent first.taken count
  draining_done first now count d held = (d.items, sym d.sent ∙ held.2 ∙ ap (λ l. now.taken ++ l) (nothing held.0 held.1) ∙ append-nil now.taken ∙ d.taken, d.counted)
    where
      nothing : (l : List T) → length l ≡ 0 → l ≡ []
      nothing [] e = refl
      nothing (y ∷ ys) e = absurd (omega (arith, e))

  pub draining_room : (first now : Log T) (count most room : ℕ) → Draining first now count → Held 0 (λ items. now.sent ≡ now.taken ++ items) → Held most (λ items. first.sent ≡ first.taken ++ items) → most ≤ room → count ≤ room
  draining_room first now count most room d empty held fits =
      let all : Delivered first.sent first.taken count = draining_done first now count d empty in
      omega (arith, all.2, held.1, fits, ap length (append_cancel_left first.taken held.0 all.0 (sym held.2 ∙ all.1)))
