-- The state of a reader, one byte on.
use Rattle.std.proofs.Common.{◌≡◌, ◌≢◌, ℕ, zero, suc, ◌+◌, ◌<◌, ◌≤◌, true, false, cond, List, [], ◌∷◌, ◌++◌, length, take, drop, map, Option, Some, None, ◌⊎◌, ⊎_elim, refl, sym, ap, subst, ◌∙◌, append-nil, arith}
use Rattle.std.specs.Prelude.{◌==◌, ◌&&◌, ◌-◌, All, IfSome, nat_lt, slice_index}
use Rattle.std.specs.Str.Lines.{strip_carriage_return}
use Rattle.std.proofs.lemmas.Bool.Decides.{nat_tests}
use Rattle.std.proofs.lemmas.List.{take_all, take-append-le, take-take, length-take-le, length_push}
use Rattle.std.proofs.lemmas.List.Elements.{All-push, All-take, All-drop}
use Rattle.kumir_tree.specs.Lines.{without_mark}
use Rattle.script_lines.specs.declared.request.Request.{Request}
use Rattle.script_lines.specs.declared.gathered.Gathered.{Gathered}
use Rattle.script_lines.specs.declared.state.State.{State}
use Rattle.script_lines.specs.Lines.{ended, unended, numbered, ended_lines, all_lines}
use Rattle.script_lines.specs.Words.{request_line}
use Rattle.script_lines.specs.Requests.{asked, requests_in, cut_off_in, whole, requests, bad_at}
use Rattle.script_lines.specs.Begun.{Begun, begun_of, wanted, begun_in, completed, left_by, first_of}
use Rattle.script_lines.specs.Reader.{IsState, IsKept, Gathers}
use Rattle.script_lines.proofs.Steps.{Goes, goes, cut_off_is, lt_from, at_none}
use Rattle.script_lines.proofs.Gathering.{some_begun}
use Rattle.script_lines.proofs.Ends.{length_ended, length_numbered, ended_byte, unended_byte, lines_byte, ended_feed, unended_feed, lines_feed}
use Rattle.script_lines.proofs.Kept.{kept_ended, kept_last}

-- ---- the bytes kept of the line begun

short_or_full : (n : ℕ) → (n ≤ 4101) ⊎ (4101 < n)
short_or_full n = grind arith

pub take_kept : (line : List ℕ) (b : ℕ) → take 4101 (take 4101 line ++ b ∷ []) ≡ take 4101 (line ++ b ∷ [])
take_kept line b =
    ⊎_elim
    (λ (short : length line ≤ 4101). ap (λ l. take 4101 (l ++ b ∷ [])) (take_all 4101 line short))
    (λ (long : 4101 < length line).
    let full = length-take-le 4101 line (omega arith) in
    take-append-le 4101 (take 4101 line) (b ∷ []) (omega arith) ∙ take-take 4101 4101 line (omega arith) ∙ sym (take-append-le 4101 line (b ∷ []) (omega arith)))
    (short_or_full (length line))

pub kept_short : (s : State) → IsState s → length s.line.items ≤ 4101
kept_short s is =
    ⊎_elim
    (λ (short : length (unended [] s.fed) ≤ 4101). let same = ap length (is.line ∙ take_all 4101 (unended [] s.fed) short) in omega arith)
    (λ (long : 4101 < length (unended [] s.fed)). let same = ap length is.line in let full = length-take-le 4101 (unended [] s.fed) (omega arith) in omega arith)
    (short_or_full (length (unended [] s.fed)))

pub pushed_state : (s t : State) (b : ℕ) → IsState s → b ≢ 10 → t.fed ≡ s.fed ++ b ∷ [] → t.line.items ≡ take 4101 (s.line.items ++ b ∷ []) → t.number ≡ s.number → t.gathered ≡ s.gathered → IsState t
pushed_state s t b is other fed line number gathered = record {
  line =
      line ∙ ap (λ l. take 4101 (l ++ b ∷ [])) is.line ∙ take_kept (unended [] s.fed) b
      ∙ sym (ap (λ f. take 4101 (unended [] f)) fed ∙ ap (take 4101) (unended_byte s.fed b other));
  ended_here = subst (λ l. All (λ x. x ≢ 10) l) (sym line) (All-take (λ x. x ≢ 10) 4101 (s.line.items ++ b ∷ []) (All-push (λ x. x ≢ 10) s.line.items b is.ended_here other));
  number = number ∙ is.number ∙ sym (ap length (ap (ended []) fed ∙ ended_byte s.fed b other));
  begun = subst (λ g. Gathers (begun_in 1 0 (ended_lines t.fed)) g) (sym gathered) (subst (λ ls. Gathers (begun_in 1 0 ls) s.gathered) (sym (ap ended_lines fed ∙ lines_byte s.fed b other)) is.begun);
}

pub pushed_whole : (s : State) (fed : List ℕ) (b : ℕ) → b ≢ 10 → fed ≡ s.fed ++ b ∷ [] → whole fed ≡ whole s.fed
pushed_whole s fed b other is = ap (requests_in 1 0) (ap ended_lines is ∙ lines_byte s.fed b other)

-- ---- the end of the line begun

pub line_begun : State → List ℕ
line_begun s = numbered (s.number + 1) (strip_carriage_return (unended [] s.fed))

pub number_short : (s : State) → IsState s → s.number ≤ length s.fed
number_short s is = let short = length_ended [] s.fed in let same = is.number in omega arith

count_is : (s : State) → IsState s → s.number + 1 ≡ 1 + length (ended_lines s.fed)
count_is s is = let same = is.number in let long = length_numbered 1 (ended [] s.fed) in omega arith

pub begun_short : (number taken : ℕ) (lines : List (List ℕ)) (b : Begun) → begun_in number taken lines ≡ Some b → length b.sofar ≤ length lines
begun_short number zero [] b e = absurd (let none : ⊥ = cc in none)
begun_short number (suc taken) [] b e = absurd (let none : ⊥ = cc in none)
begun_short number (suc taken) (l ∷ ls) b e = let short = begun_short (number + 1) taken ls b e in omega arith
begun_short number zero (l ∷ ls) b e =
    elim (nat_lt (length ls) (wanted l)) as (λ t. cond t (Some (begun_of number l ls)) (begun_in (number + 1) (wanted l) ls) ≡ Some b → length b.sofar ≤ suc (length ls)) [
      | true ↦ λ is. let same : begun_of number l ls ≡ b = cc in let long = ap (λ x. length x.sofar) same in omega arith
      | false ↦ λ is. let short = begun_short (number + 1) (wanted l) ls b is in omega arith
    ] e

pub gathered_room : (s : State) (g : Option Gathered) → IsState s → length s.fed < 4294967295 → g ≡ s.gathered → IfSome g (λ x. x.taken + 1 < 4294967296)
gathered_room s None is room same = tt
gathered_room s (Some g) is room same =
    let x = some_begun (begun_in 1 0 (ended_lines s.fed)) g (subst (Gathers (begun_in 1 0 (ended_lines s.fed))) (sym same) is.begun) in
    let short = begun_short 1 0 (ended_lines s.fed) x.0 x.1 in
    let taken = x.2.taken in
    let count = count_is s is in
    let number = number_short s is in
    omega arith

all_unmarked : (line : List ℕ) → All (λ x. x ≢ 10) line → All (λ x. x ≢ 10) (without_mark line)
all_unmarked line all =
    elim (slice_index line 0 == 239 && slice_index line 1 == 187 && slice_index line 2 == 191) as (λ t. All (λ x. x ≢ 10) (cond t (drop 3 line) line)) [
      | true ↦ All-drop (λ x. x ≢ 10) 3 line all
      | false ↦ all
    ]

all_numbered : (n : ℕ) (line : List ℕ) → All (λ x. x ≢ 10) line → All (λ x. x ≢ 10) (numbered n line)
all_numbered n line all =
    elim (n == 1) as (λ t. All (λ x. x ≢ 10) (cond t (without_mark line) line)) [
      | true ↦ all_unmarked line all
      | false ↦ all
    ]

all_stripped : (line : List ℕ) → All (λ x. x ≢ 10) line → All (λ x. x ≢ 10) (strip_carriage_return line)
all_stripped line all =
    elim (slice_index line (length line - 1) == 13) as (λ t. All (λ x. x ≢ 10) (cond t (take (length line - 1) line) line)) [
      | true ↦ All-take (λ x. x ≢ 10) (length line - 1) line all
      | false ↦ all
    ]

pub ended_line_all : (s : State) (line : List ℕ) (n : ℕ) → IsState s → line ≡ numbered n (strip_carriage_return s.line.items) → All (λ x. x ≢ 10) line
ended_line_all s line n is e = subst (λ l. All (λ x. x ≢ 10) l) (sym e) (all_numbered n (strip_carriage_return s.line.items) (all_stripped s.line.items is.ended_here))

pub last_line_all : (s : State) (line : List ℕ) (n : ℕ) → IsState s → line ≡ numbered n s.line.items → All (λ x. x ≢ 10) line
last_line_all s line n is e = subst (λ l. All (λ x. x ≢ 10) l) (sym e) (all_numbered n s.line.items is.ended_here)

pub goes_on : (s : State) → IsState s → (line : List ℕ) → Goes 1 0 (ended_lines s.fed) line (s.number + 1)
goes_on s is line = goes 1 0 (ended_lines s.fed) line (s.number + 1) (omega arith) (count_is s is)

lines_on : (s : State) (fed : List ℕ) → IsState s → fed ≡ s.fed ++ 10 ∷ [] → ended_lines fed ≡ ended_lines s.fed ++ line_begun s ∷ []
unfolding line_begun
lines_on s fed is e = ap ended_lines e ∙ lines_feed s.fed (s.number + 1) (let same = is.number in omega arith)

pub ended_state : (s t : State) → IsState s → t.fed ≡ s.fed ++ 10 ∷ [] → t.line.items ≡ [] → t.number ≡ s.number + 1 → Gathers (left_by (s.number + 1) (begun_in 1 0 (ended_lines s.fed)) (line_begun s)) t.gathered → IsState t
ended_state s t is fed line number gathers = record {
  line = line ∙ sym (ap (λ f. take 4101 (unended [] f)) fed ∙ ap (take 4101) (unended_feed s.fed));
  ended_here = subst (λ l. All (λ x. x ≢ 10) l) (sym line) (λ k d h. absurd (omega arith));
  number = number ∙ ap (λ k. k + 1) is.number ∙ sym (ap length (ap (ended []) fed ∙ ended_feed s.fed) ∙ length_push (ended [] s.fed) (unended [] s.fed));
  begun = subst (λ b. Gathers b t.gathered) (sym (ap (begun_in 1 0) (lines_on s t.fed is fed) ∙ (goes_on s is (line_begun s)).begun)) gathers;
}

pub ended_whole : (s : State) (fed : List ℕ) (rs : List Request) → IsState s → fed ≡ s.fed ++ 10 ∷ [] → rs ≡ completed (s.number + 1) (begun_in 1 0 (ended_lines s.fed)) (line_begun s) → whole fed ≡ whole s.fed ++ rs
ended_whole s fed rs is e done = ap (requests_in 1 0) (lines_on s fed is e) ∙ (goes_on s is (line_begun s)).done ∙ ap (λ x. whole s.fed ++ x) (sym done)

pub ended_kept : (s : State) (line : List ℕ) → IsState s → line ≡ numbered (s.number + 1) (strip_carriage_return s.line.items) → IsKept (line_begun s) line
unfolding line_begun
ended_kept s line is e = subst (IsKept (line_begun s)) (sym (e ∙ ap (λ l. numbered (s.number + 1) (strip_carriage_return l)) is.line)) (kept_ended (s.number + 1) (unended [] s.fed))

-- ---- the end of the script

nothing_begun : (s : State) → IsState s → s.line.items ≡ [] → unended [] s.fed ≡ []
nothing_begun s is empty =
    ⊎_elim
    (λ (short : length (unended [] s.fed) ≤ 4101). sym (take_all 4101 (unended [] s.fed) short) ∙ sym is.line ∙ empty)
    (λ (long : 4101 < length (unended [] s.fed)). let same = ap length (sym is.line ∙ empty) in let full = length-take-le 4101 (unended [] s.fed) (omega arith) in absurd (omega arith))
    (short_or_full (length (unended [] s.fed)))

lines_empty : (s : State) → IsState s → s.line.items ≡ [] → all_lines s.fed ≡ ended_lines s.fed
lines_empty s is empty =
    ap (λ u. cond (length u == 0) (ended_lines s.fed) (ended_lines s.fed ++ numbered (length (ended_lines s.fed) + 1) u ∷ [])) (nothing_begun s is empty)

pub requests_empty : (s : State) (rs : List Request) → IsState s → s.line.items ≡ [] → rs ≡ map bad_at (first_of (begun_in 1 0 (ended_lines s.fed))) → requests s.fed ≡ whole s.fed ++ rs
requests_empty s rs is empty done =
    ap (λ ls. requests_in 1 0 ls ++ map bad_at (cut_off_in 1 0 ls)) (lines_empty s is empty)
    ∙ ap (λ c. whole s.fed ++ map bad_at c) (cut_off_is 1 0 (ended_lines s.fed))
    ∙ ap (λ x. whole s.fed ++ x) (sym done)

some_items : (n : ℕ) → 0 < n → (n == 0) ≡ false
some_items n h = grind (arith, nat_tests)

some_begun_here : (s : State) → IsState s → 0 < length s.line.items → 0 < length (unended [] s.fed)
some_begun_here s is some =
    ⊎_elim
    (λ (short : length (unended [] s.fed) ≤ 4101). let same = ap length (is.line ∙ take_all 4101 (unended [] s.fed) short) in omega arith)
    (λ (long : 4101 < length (unended [] s.fed)). omega arith)
    (short_or_full (length (unended [] s.fed)))

pub last_line : State → List ℕ
last_line s = numbered (s.number + 1) (unended [] s.fed)

lines_more : (s : State) → IsState s → 0 < length s.line.items → all_lines s.fed ≡ ended_lines s.fed ++ last_line s ∷ []
unfolding last_line
lines_more s is some =
    ap (λ t. cond t (ended_lines s.fed) (ended_lines s.fed ++ numbered (length (ended_lines s.fed) + 1) (unended [] s.fed) ∷ [])) (some_items (length (unended [] s.fed)) (some_begun_here s is some))
    ∙ ap (λ n. ended_lines s.fed ++ numbered n (unended [] s.fed) ∷ []) (let count = count_is s is in let same : length (ended_lines s.fed) + 1 ≡ s.number + 1 = omega arith in same)

pub last_kept : (s : State) (line : List ℕ) → IsState s → line ≡ numbered (s.number + 1) s.line.items → IsKept (last_line s) line
unfolding last_line
last_kept s line is e = subst (IsKept (last_line s)) (sym (e ∙ ap (λ l. numbered (s.number + 1) l) is.line)) (kept_last (s.number + 1) (unended [] s.fed))

abbrev last_done : State → List Request
last_done s = completed (s.number + 1) (begun_in 1 0 (ended_lines s.fed)) (last_line s)

abbrev last_left : State → Option Begun
last_left s = left_by (s.number + 1) (begun_in 1 0 (ended_lines s.fed)) (last_line s)

requests_more : (s : State) → IsState s → 0 < length s.line.items → requests s.fed ≡ (whole s.fed ++ last_done s) ++ map bad_at (first_of (last_left s))
requests_more s is some =
    let on = goes_on s is (last_line s) in
    ap (λ ls. requests_in 1 0 ls ++ map bad_at (cut_off_in 1 0 ls)) (lines_more s is some)
    ∙ ap (λ c. requests_in 1 0 (ended_lines s.fed ++ last_line s ∷ []) ++ map bad_at c) (cut_off_is 1 0 (ended_lines s.fed ++ last_line s ∷ []) ∙ ap first_of on.begun)
    ∙ ap (λ x. x ++ map bad_at (first_of (last_left s))) on.done

-- a line that completes a request leaves none with lines missing
done_left : (at : ℕ) (b : Option Begun) (l : List ℕ) (r : Request) → r ∷ [] ≡ completed at b l → left_by at b l ≡ None
done_left at None l r done =
    elim (nat_lt 0 (wanted l)) as (λ t. nat_lt 0 (wanted l) ≡ t → cond t (Some (begun_of at l [])) None ≡ None) [
      | true ↦ λ e. let some = lt_from 0 (wanted l) e in let none = at_none at (request_line l) [] some in absurd (let never : ⊥ = cc in never)
      | false ↦ λ e. refl
    ] refl
done_left at (Some b) l r done =
    elim (nat_lt (length b.sofar + 1) (wanted b.head)) as (λ t. r ∷ [] ≡ cond t [] ((record { line = b.first; ask = asked (request_line b.head) (b.sofar ++ l ∷ []) }) ∷ []) → cond t (Some (begun_of b.first b.head (b.sofar ++ l ∷ []))) None ≡ None) [
      | true ↦ λ e. absurd (let never : ⊥ = cc in never)
      | false ↦ λ e. refl
    ] done

pub finish_some : (s : State) (r : Request) → IsState s → 0 < length s.line.items → r ∷ [] ≡ completed (s.number + 1) (begun_in 1 0 (ended_lines s.fed)) (last_line s) → requests s.fed ≡ whole s.fed ++ r ∷ []
finish_some s r is some done =
    requests_more s is some
    ∙ ap (λ b. (whole s.fed ++ last_done s) ++ map bad_at (first_of b)) (done_left (s.number + 1) (begun_in 1 0 (ended_lines s.fed)) (last_line s) r done)
    ∙ append-nil (whole s.fed ++ last_done s) ∙ ap (λ x. whole s.fed ++ x) (sym done)

pub finish_none : (s : State) (rs : List Request) → IsState s → 0 < length s.line.items → [] ≡ completed (s.number + 1) (begun_in 1 0 (ended_lines s.fed)) (last_line s) → rs ≡ map bad_at (first_of (left_by (s.number + 1) (begun_in 1 0 (ended_lines s.fed)) (last_line s))) → requests s.fed ≡ whole s.fed ++ rs
finish_none s rs is some done left =
    requests_more s is some
    ∙ ap (λ x. (whole s.fed ++ x) ++ map bad_at (first_of (last_left s))) (sym done)
    ∙ ap (λ x. x ++ map bad_at (first_of (last_left s))) (append-nil (whole s.fed))
    ∙ ap (λ x. whole s.fed ++ x) (sym left)
