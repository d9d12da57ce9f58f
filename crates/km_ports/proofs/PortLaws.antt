-- One call after another, and a source that was read to its end.
use Rattle.std.proofs.Common.{◌≡◌, ℕ, ◌+◌, ◌<◌, List, [], ◌++◌, length, take, drop, Option, None, Some, refl, sym, ap, ◌∙◌, arith, ◌-◌, append_assoc, append-nil, length-append, length-drop}
use Rattle.std.proofs.lemmas.List.{take-append-drop, take-take, take_all, drop-take}
use Rattle.std.specs.Io.KnownBytes.{prepend_known, append_known, IsAtEnd}
use Rattle.km_ports.specs.Ports.{SourceState, SinkState, TakesFrom, PutsInto}
use Rattle.km_ports.specs.Whole.{IsAll, HasMore, IsWhole, IsLongerThan}

-- nothing was taken
nothing_taken : (left : Option (List ℕ)) → left ≡ prepend_known [] left
nothing_taken None = refl
nothing_taken (Some bytes) = refl

pub TakesFrom-nothing : (source : SourceState) → TakesFrom source source []
TakesFrom-nothing source = nothing_taken source.left

-- these bytes were taken, and then those
taken_then : (now : Option (List ℕ)) (first second : List ℕ) → prepend_known first (prepend_known second now) ≡ prepend_known (first ++ second) now
taken_then None first second = refl
taken_then (Some rest) first second = ap Some (sym (append_assoc first second rest))

pub TakesFrom-then : (before between now : SourceState) (first second : List ℕ) → TakesFrom before between first → TakesFrom between now second → TakesFrom before now (first ++ second)
TakesFrom-then before between now first second p q = p ∙ ap (prepend_known first) q ∙ taken_then now.left first second

-- nothing was put
nothing_put : (written : Option (List ℕ)) → written ≡ append_known written []
nothing_put None = refl
nothing_put (Some bytes) = ap Some (sym (append-nil bytes))

pub PutsInto-nothing : (sink : SinkState) → PutsInto sink sink []
PutsInto-nothing sink = nothing_put sink.written

-- these bytes were put, and then those
put_then : (before : Option (List ℕ)) (first second : List ℕ) → append_known (append_known before first) second ≡ append_known before (first ++ second)
put_then None first second = refl
put_then (Some written) first second = ap Some (append_assoc written first second)

pub PutsInto-then : (before between now : SinkState) (first second : List ℕ) → PutsInto before between first → PutsInto between now second → PutsInto before now (first ++ second)
PutsInto-then before between now first second p q = q ∙ ap (λ written. append_known written second) p ∙ put_then before.written first second

-- all that was left was taken
all_at_end : (before now : Option (List ℕ)) (bytes : List ℕ) → before ≡ prepend_known bytes now → IsAtEnd now → IsAll before now bytes
all_at_end None now bytes p end = tt
all_at_end (Some left) None bytes p end = cc
all_at_end (Some left) (Some rest) bytes p end =
    let all : left ≡ bytes ++ rest = cc in
    (sym (append-nil bytes) ∙ ap (λ behind. bytes ++ behind) (sym end) ∙ sym all, ap Some end)

pub IsWhole-at_end : (before now : SourceState) (bytes : List ℕ) → TakesFrom before now bytes → IsAtEnd now.left → IsWhole before now bytes
IsWhole-at_end before now bytes = all_at_end before.left now.left bytes

-- more bytes than the limit were taken
more_taken : (most : ℕ) (before now : Option (List ℕ)) (bytes : List ℕ) → most < length bytes → before ≡ prepend_known bytes now → HasMore most before
more_taken most None now bytes more p = tt
more_taken most (Some left) None bytes more p = cc
more_taken most (Some left) (Some rest) bytes more p =
    let all : left ≡ bytes ++ rest = cc in
    omega (arith, ap length all, length-append bytes rest)

pub IsLongerThan-taken : (most : ℕ) (before now : SourceState) (bytes : List ℕ) → most < length bytes → TakesFrom before now bytes → IsLongerThan most before
IsLongerThan-taken most before now = more_taken most before.left now.left

-- all that stands behind a place
pub take-behind : (bytes : List ℕ) (at : ℕ) → take (length bytes - at) (drop at bytes) ≡ drop at bytes
take-behind bytes at = take_all _ _ (simp length-drop (omega arith))

-- the first bytes of a list, and then the first of those behind them
pub take-then : (bytes : List ℕ) (at count : ℕ) → take at bytes ++ take count (take (length bytes - at) (drop at bytes)) ≡ take (at + count) bytes
take-then bytes at count =
    let front : take at (take (at + count) bytes) ≡ take at bytes = take-take at (at + count) bytes (omega arith) in
    let behind : drop at (take (at + count) bytes) ≡ take count (drop at bytes) = drop-take at count bytes in
    let whole = take-append-drop at (take (at + count) bytes) in
    rw take-behind (rw (front, behind) at whole)
