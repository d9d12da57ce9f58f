use Rattle.std.proofs.Common.{◌≡◌, ℕ, ◌+◌, ◌-◌, ◌≤◌, List, ◌++◌, length, take, drop, sym, ap, ◌∙◌, arith, length-take}
use Rattle.std.proofs.lemmas.List.{take-append-drop, take-append-le, take-take, drop-drop}
use Rattle.km_ports.proofs.PortLaws.{take-behind}
use Rattle.km_ports.proofs.feed.Feed.give.Goals as goal

-- the first bytes of what is left, and what stands behind them
given : (bytes rest : List ℕ) (at n : ℕ) → n ≤ length (drop at bytes) → drop at bytes ≡ take n (take n (drop at bytes) ++ rest) ++ drop (at + n) bytes
given bytes rest at n fits =
    let reaches : n ≤ length (take n (drop at bytes)) = simp length-take (omega arith) in
    simp (take-append-le n (take n (drop at bytes)) rest reaches, take-take n n (drop at bytes) (omega arith)) (rw (← drop-drop n at bytes) (sym (take-append-drop n (drop at bytes))))

pub returns-clause-bytes : goal.returns-clause-bytes
returns-clause-bytes c =
    let n = c.min-count.result in
    let at = c.self.inside.at in
    let bytes = c.self.inside.bytes.items in
    let same : c.deref.result.now ≡ bytes = c.deref.ensures.value in
    let left : take (length c.deref.result.now - at) (drop at c.deref.result.now) ≡ drop at bytes = take-behind c.deref.result.now at ∙ ap (drop at) same in
    let copied : c.copy_from_slice.new.self ≡ take n (drop at bytes) = c.copy_from_slice.ensures.after ∙ ap (take n) left in
    let fits : n ≤ length (drop at bytes) = omega (arith, ap length left) in
    sym c.self.view_is ∙ (rw (← copied) at (given bytes (drop n c.args.piece.now) at n fits))
