-- Bytes are the print of entries, and a rest that begins with none, in one way.
use Rattle.std.proofs.Common.{◌≡◌, ◌≢◌, ℕ, suc, ◌+◌, ◌-◌, ◌≤◌, ◌<◌, Bool, true, false, cond, Option, Some, None, List, [], ◌∷◌, ◌++◌, length, take, drop, eqb, codes, refl, sym, ap, subst, ◌∙◌, append_assoc, append-nil, arith}
use Rattle.std.specs.Prelude.{All}
use Rattle.std.specs.List.{slice_split, position_from}
use Rattle.std.proofs.lemmas.Bool.Decides.{Decides-eqb}
use Rattle.std.proofs.lemmas.List.{append_cancel_left, flat_map_more, length-append, length-drop, take_all}
use Rattle.std.proofs.lemmas.List.Elements.{All-append, All-cons, All-nil}
use Rattle.std.proofs.lemmas.List.Splits.{slice_split_none, slice_split_at, length-slice_split}
use Rattle.margins.proofs.Words.{tails_same}
use Rattle.transcript.specs.declared.entry.Entry.{Entry}
use Rattle.transcript.specs.Print.{entry_line, printed_entry, print, IsEntry, IsPrintable}
use Rattle.transcript.specs.Entries.{IsShown, BeginsNoEntry, IsFirstBad}
use Rattle.transcript.proofs.Heads.{heads_same}
use Rattle.transcript.proofs.Texts.{entry_is_line}
use Rattle.transcript.proofs.OneLine.{one_line}

-- bytes without a line feed
abbrev pub HasNoFeed : List ℕ → Type 0
HasNoFeed bytes = All (λ b. eqb b 10 ≡ false) bytes

line_cut : (x y a b : List ℕ) → HasNoFeed x → HasNoFeed y → x ++ 10 ∷ a ≡ y ++ 10 ∷ b → (x ≡ y) × (a ≡ b)
line_cut x y a b h k is =
    let both = sym (slice_split_at (λ c. eqb c 10) x 10 a h refl) ∙ ap (slice_split (λ c. eqb c 10)) is ∙ slice_split_at (λ c. eqb c 10) y 10 b k refl in
    let same : x ≡ y = heads_same _ _ _ _ both in
    let behind = append_cancel_left x (10 ∷ a) (10 ∷ b) (is ∙ ap (λ z. z ++ 10 ∷ b) (sym same)) in
    (same, append_cancel_left (10 ∷ []) a b behind)

-- a printed entry begins with its line and the end of it
pub line_prefix : (e : Entry) (after : List ℕ) → printed_entry e ++ after ≡ entry_line e ++ 10 ∷ after
line_prefix e after = append_assoc (entry_line e) (codes "\n") after

prefix_cut : (e f : Entry) (a b : List ℕ) → IsShown e → IsShown f → printed_entry e ++ a ≡ printed_entry f ++ b → (e ≡ f) × (a ≡ b)
prefix_cut e f a b h k is =
    let cut = line_cut (entry_line e) (entry_line f) a b (entry_is_line e h.0).1 (entry_is_line f k.0).1 (sym (line_prefix e a) ∙ is ∙ line_prefix f b) in
    (one_line e f h.0 h.1 k.0 k.1 cut.0, cut.1)

pub one_reading : (es fs : List Entry) (t u : List ℕ) → All IsShown es → All IsShown fs → BeginsNoEntry t → BeginsNoEntry u → print es ++ t ≡ print fs ++ u → (es ≡ fs) × (t ≡ u)
one_reading [] [] t u h k p q is = (refl, is)
one_reading [] (f ∷ fs) t u h k p q is = absurd (p f (k 0 f (omega arith)) (print fs ++ u) (is ∙ append_assoc (printed_entry f) (print fs) u))
one_reading (e ∷ es) [] t u h k p q is = absurd (q e (h 0 e (omega arith)) (print es ++ t) (sym is ∙ append_assoc (printed_entry e) (print es) t))
one_reading (e ∷ es) (f ∷ fs) t u h k p q is =
    let cut = prefix_cut e f (print es ++ t) (print fs ++ u) (h 0 e (omega arith)) (k 0 f (omega arith)) (sym (append_assoc (printed_entry e) (print es) t) ∙ is ∙ append_assoc (printed_entry f) (print fs) u) in
    let rest = one_reading es fs t u (λ j d w. h (suc j) d (omega arith)) (λ j d w. k (suc j) d (omega arith)) p q cut.1 in
    ((λ i. cut.0 i ∷ rest.0 i), rest.1)

pub nothing_begins : BeginsNoEntry []
nothing_begins e h after is =
    let lengths : 0 ≡ length (entry_line e) + length (10 ∷ after) = ap length (is ∙ line_prefix e after) ∙ length-append (entry_line e) (10 ∷ after) in
    omega arith

-- bytes that have no line feed begin with no entry, and those whose first line is none
pub no_feed_none : (bytes : List ℕ) → HasNoFeed bytes → BeginsNoEntry bytes
no_feed_none bytes h e shown after is =
    let both = sym (slice_split_none (λ c. eqb c 10) bytes h) ∙ ap (slice_split (λ c. eqb c 10)) (is ∙ line_prefix e after) ∙ slice_split_at (λ c. eqb c 10) (entry_line e) 10 after (entry_is_line e shown.0).1 refl in
    let size : 0 ≡ length (slice_split (λ c. eqb c 10) after) = ap length (tails_same _ _ _ _ both) in
    let more = length-slice_split (λ c. eqb c 10) after in
    omega arith

pub other_line_none : (bytes line after : List ℕ) → HasNoFeed line → bytes ≡ line ++ 10 ∷ after → ((e : Entry) → IsShown e → line ≢ entry_line e) → BeginsNoEntry bytes
other_line_none bytes line after h is none e shown rest same =
    none e shown (line_cut line (entry_line e) after rest h (entry_is_line e shown.0).1 (sym is ∙ same ∙ line_prefix e rest)).0

-- one more entry
pub one_more : (bytes : List ℕ) (es : List Entry) (rest : List ℕ) (e : Entry) (after : List ℕ) → bytes ≡ print es ++ rest → rest ≡ printed_entry e ++ after → bytes ≡ print (es ++ e ∷ []) ++ after
one_more bytes es rest e after is cut =
    is ∙ ap (λ r. print es ++ r) cut ∙ sym (append_assoc (print es) (printed_entry e) after) ∙ ap (λ l. l ++ after) (flat_map_more printed_entry [] es e)

pub one_shown : (es : List Entry) (e : Entry) → All IsShown es → IsShown e → All IsShown (es ++ e ∷ [])
one_shown es e h shown = All-append IsShown es (e ∷ []) h (All-cons IsShown e [] shown (All-nil IsShown))

-- where the first line feed lies
pub feed_at : (i : ℕ) (bs : List ℕ) (at : ℕ) → position_from (λ b. eqb b 10) i bs ≡ Some at → (k : ℕ) × (at ≡ i + k) × HasNoFeed (take k bs) × (bs ≡ take k bs ++ 10 ∷ drop (suc k) bs)
feed_at i [] at is = absurd (let never : ⊥ = cc in never)
feed_at i (c ∷ cs) at is =
    elim (eqb c 10) as (λ b. eqb c 10 ≡ b → cond b (Some i) (position_from (λ b. eqb b 10) (i + 1) cs) ≡ Some at → (k : ℕ) × (at ≡ i + k) × HasNoFeed (take k (c ∷ cs)) × (c ∷ cs ≡ take k (c ∷ cs) ++ 10 ∷ drop (suc k) (c ∷ cs))) [
      | true ↦ λ same found. let here : i ≡ at = cc in (0, omega (arith, here), All-nil (λ b. eqb b 10 ≡ false), ap (λ x. x ∷ cs) ((Decides-eqb c 10).0 same))
      | false ↦ λ not found.
          let rest = feed_at (i + 1) cs at found in
          (suc rest.0, omega (arith, rest.1), All-cons (λ b. eqb b 10 ≡ false) c (take rest.0 cs) not rest.2, ap (λ l. c ∷ l) rest.3)
    ] refl is

pub no_feed_at : (i : ℕ) (bs : List ℕ) → position_from (λ b. eqb b 10) i bs ≡ None → HasNoFeed bs
no_feed_at i [] is = All-nil (λ b. eqb b 10 ≡ false)
no_feed_at i (c ∷ cs) is =
    elim (eqb c 10) as (λ b. eqb c 10 ≡ b → cond b (Some i) (position_from (λ b. eqb b 10) (i + 1) cs) ≡ None → HasNoFeed (c ∷ cs)) [
      | true ↦ λ same found. absurd (let never : ⊥ = cc in never)
      | false ↦ λ not found. All-cons (λ b. eqb b 10 ≡ false) c cs not (no_feed_at (i + 1) cs found)
    ] refl is

pub line_parts : (bytes : List ℕ) (at : ℕ) → position_from (λ b. eqb b 10) 0 bytes ≡ Some at → at < length bytes → HasNoFeed (take at bytes) × (bytes ≡ take at bytes ++ 10 ∷ take (length bytes - (at + 1)) (drop (at + 1) bytes))
line_parts bytes at is within =
    let cut = feed_at 0 bytes at is in
    let same : cut.0 ≡ at = omega (arith, cut.1) in
    let next : suc at ≡ at + 1 = omega arith in
    let size = length-drop (at + 1) bytes in
    let whole = take_all (length bytes - (at + 1)) (drop (at + 1) bytes) (omega arith) in
    (subst (λ k. HasNoFeed (take k bytes)) same cut.2, subst (λ k. bytes ≡ take k bytes ++ 10 ∷ drop (suc k) bytes) same cut.3 ∙ ap (λ n. take at bytes ++ 10 ∷ drop n bytes) next ∙ ap (λ r. take at bytes ++ 10 ∷ r) (sym whole))

-- an entry takes bytes
pub shorter : (rest : List ℕ) (e : Entry) (after : List ℕ) → rest ≡ printed_entry e ++ after → length after + 1 ≤ length rest
shorter rest e after is =
    let lengths : length rest ≡ length (entry_line e) + length (10 ∷ after) = ap length (is ∙ line_prefix e after) ∙ length-append (entry_line e) (10 ∷ after) in
    omega arith

-- bytes that are the print of entries
pub read_all : (bytes : List ℕ) (es : List Entry) (rest : List ℕ) → rest ≡ [] → bytes ≡ print es ++ rest → bytes ≡ print es
read_all bytes es rest end is = is ∙ ap (λ r. print es ++ r) end ∙ append-nil (print es)

pub same_entries : (bytes : List ℕ) (es fs : List Entry) → All IsShown es → All IsShown fs → bytes ≡ print es → bytes ≡ print fs → es ≡ fs
same_entries bytes es fs h k p q = (one_reading es fs [] [] h k nothing_begins nothing_begins (append-nil (print es) ∙ sym p ∙ q ∙ sym (append-nil (print fs)))).0

pub none_bad : (bytes : List ℕ) (es : List Entry) (line : ℕ) → All IsShown es → bytes ≡ print es → IsFirstBad bytes line → ⊥
none_bad bytes es line h is bad =
    bad.more (sym (one_reading es bad.before [] bad.rest h bad.shown nothing_begins bad.none (append-nil (print es) ∙ sym is ∙ bad.cut)).1)

pub same_bad : (bytes : List ℕ) (line other : ℕ) → IsFirstBad bytes line → IsFirstBad bytes other → line ≡ other
same_bad bytes line other a b =
    let same = (one_reading a.before b.before a.rest b.rest a.shown b.shown a.none b.none (sym a.cut ∙ b.cut)).0 in
    a.counted ∙ ap (λ es. length es + 1) same ∙ sym b.counted
