-- One more line of a script: what it completes, and which request it leaves with lines missing.
use Rattle.std.proofs.Common.{◌≡◌, ℕ, zero, suc, ◌+◌, ◌<◌, ◌≤◌, true, false, cond, List, [], ◌∷◌, ◌++◌, length, take, Some, None, refl, sym, ap, ◌∙◌, append-nil, append_assoc, arith}
use Rattle.std.specs.Prelude.{nat_lt, nat_le}
use Rattle.std.proofs.lemmas.Bool.Decides.{nat_tests}
use Rattle.std.proofs.lemmas.List.{take_all, take-append-le, length_push}
use Rattle.script_lines.specs.declared.request.Request.{Request}
use Rattle.script_lines.specs.declared.read.RequestLine.{RequestLine}
use Rattle.script_lines.specs.declared.read.RequestLine.TheVariants.{Nothing, Alone, EditHead, FieldHead}
use Rattle.script_lines.specs.Words.{request_line}
use Rattle.script_lines.specs.Requests.{lines_wanted, asked, request_at, requests_in, cut_off_in}
use Rattle.script_lines.specs.Begun.{begun_of, wanted, begun_in, completed, left_by, first_of}

pub lt_true : (m n : ℕ) → m < n → nat_lt m n ≡ true
lt_true m n h = grind (arith, nat_tests)

pub lt_false : (m n : ℕ) → n ≤ m → nat_lt m n ≡ false
lt_false m n h = grind (arith, nat_tests)

pub lt_from : (m n : ℕ) → nat_lt m n ≡ true → m < n
lt_from m n h = grind (arith, nat_tests)

pub ge_from : (m n : ℕ) → nat_lt m n ≡ false → n ≤ m
ge_from m n h = grind (arith, nat_tests)

pub le_true : (m n : ℕ) → m ≤ n → nat_le m n ≡ true
le_true m n h = grind (arith, nat_tests)

pub le_false : (m n : ℕ) → n < m → nat_le m n ≡ false
le_false m n h = grind (arith, nat_tests)

-- ---- lines that belong to a request before

no_requests : (number taken : ℕ) (lines : List (List ℕ)) → length lines ≤ taken → requests_in number taken lines ≡ []
no_requests number zero [] h = refl
no_requests number (suc taken) [] h = refl
no_requests number zero (l ∷ ls) h = absurd (omega arith)
no_requests number (suc taken) (l ∷ ls) h = no_requests (number + 1) taken ls (omega arith)

none_begun : (number taken : ℕ) (lines : List (List ℕ)) → length lines ≤ taken → begun_in number taken lines ≡ None
none_begun number zero [] h = refl
none_begun number (suc taken) [] h = refl
none_begun number zero (l ∷ ls) h = absurd (omega arith)
none_begun number (suc taken) (l ∷ ls) h = none_begun (number + 1) taken ls (omega arith)

-- ---- a request at its line

abbrev made : ℕ → RequestLine → ℕ → List (List ℕ) → List Request
made number head count more = cond (nat_le count (length more)) ((record { line = number; ask = asked head (take count more) }) ∷ []) []

made_same : (number : ℕ) (head : RequestLine) (count : ℕ) (ls : List (List ℕ)) (l : List ℕ) → count ≤ length ls → made number head count (ls ++ l ∷ []) ≡ made number head count ls
made_same number head count ls l h =
    let long = length_push ls l in
    ap (λ b. cond b ((record { line = number; ask = asked head (take count (ls ++ l ∷ [])) }) ∷ []) []) (le_true count (length (ls ++ l ∷ [])) (omega arith))
    ∙ ap (λ x. (record { line = number; ask = asked head x }) ∷ []) (take-append-le count ls (l ∷ []) h)
    ∙ sym (ap (λ b. cond b ((record { line = number; ask = asked head (take count ls) }) ∷ []) []) (le_true count (length ls) h))

made_none : (number : ℕ) (head : RequestLine) (count : ℕ) (ls : List (List ℕ)) → length ls < count → made number head count ls ≡ []
made_none number head count ls h = ap (λ b. cond b ((record { line = number; ask = asked head (take count ls) }) ∷ []) []) (le_false count (length ls) h)

made_all : (number : ℕ) (head : RequestLine) (count : ℕ) (ls : List (List ℕ)) → length ls ≡ count → made number head count ls ≡ (record { line = number; ask = asked head ls }) ∷ []
made_all number head count ls h =
    ap (λ b. cond b ((record { line = number; ask = asked head (take count ls) }) ∷ []) []) (le_true count (length ls) (omega arith))
    ∙ ap (λ x. (record { line = number; ask = asked head x }) ∷ []) (take_all count ls (omega arith))

at_same : (number : ℕ) (head : RequestLine) (ls : List (List ℕ)) (l : List ℕ) → lines_wanted head ≤ length ls → request_at number head (ls ++ l ∷ []) ≡ request_at number head ls
at_same number Nothing ls l h = refl
at_same number (Alone a) ls l h = made_same number (Alone a) 0 ls l h
at_same number (EditHead f c a) ls l h = made_same number (EditHead f c a) a ls l h
at_same number (FieldHead n) ls l h = made_same number (FieldHead n) n ls l h

pub at_none : (number : ℕ) (head : RequestLine) (ls : List (List ℕ)) → length ls < lines_wanted head → request_at number head ls ≡ []
at_none number Nothing ls h = refl
at_none number (Alone a) ls h = made_none number (Alone a) 0 ls h
at_none number (EditHead f c a) ls h = made_none number (EditHead f c a) a ls h
at_none number (FieldHead n) ls h = made_none number (FieldHead n) n ls h

at_all : (number : ℕ) (head : RequestLine) (ls : List (List ℕ)) → length ls ≡ lines_wanted head → 0 < lines_wanted head → request_at number head ls ≡ (record { line = number; ask = asked head ls }) ∷ []
at_all number Nothing ls h some = absurd (omega arith)
at_all number (Alone a) ls h some = absurd (omega arith)
at_all number (EditHead f c a) ls h some = made_all number (EditHead f c a) a ls h
at_all number (FieldHead n) ls h some = made_all number (FieldHead n) n ls h

-- ---- one more line

pub record Goes (number taken : ℕ) (lines : List (List ℕ)) (line : List ℕ) (at : ℕ) : Type 0 where
  pub done : requests_in number taken (lines ++ line ∷ []) ≡ requests_in number taken lines ++ completed at (begun_in number taken lines) line
  pub begun : begun_in number taken (lines ++ line ∷ []) ≡ left_by at (begun_in number taken lines) line

begun_missing : (number : ℕ) (l : List ℕ) (ls : List (List ℕ)) → length ls < wanted l → begun_in number zero (l ∷ ls) ≡ Some (begun_of number l ls)
begun_missing number l ls h = ap (λ b. cond b (Some (begun_of number l ls)) (begun_in (number + 1) (wanted l) ls)) (lt_true (length ls) (wanted l) h)

begun_there : (number : ℕ) (l : List ℕ) (ls : List (List ℕ)) → wanted l ≤ length ls → begun_in number zero (l ∷ ls) ≡ begun_in (number + 1) (wanted l) ls
begun_there number l ls h = ap (λ b. cond b (Some (begun_of number l ls)) (begun_in (number + 1) (wanted l) ls)) (lt_false (length ls) (wanted l) h)

last_wanted : (number : ℕ) (l : List ℕ) (ls : List (List ℕ)) (line : List ℕ) → length ls < wanted l →
    request_at number (request_line l) (ls ++ line ∷ []) ≡ cond (nat_lt (length ls + 1) (wanted l)) [] ((record { line = number; ask = asked (request_line l) (ls ++ line ∷ []) }) ∷ [])
last_wanted number l ls line h =
    let long = length_push ls line in
    elim (nat_lt (length ls + 1) (wanted l)) as (λ b. nat_lt (length ls + 1) (wanted l) ≡ b → request_at number (request_line l) (ls ++ line ∷ []) ≡ cond b [] ((record { line = number; ask = asked (request_line l) (ls ++ line ∷ []) }) ∷ [])) [
      | true ↦ λ e. let less = lt_from (length ls + 1) (wanted l) e in at_none number (request_line l) (ls ++ line ∷ []) (omega arith)
      | false ↦ λ e. let more = ge_from (length ls + 1) (wanted l) e in at_all number (request_line l) (ls ++ line ∷ []) (omega arith) (omega arith)
    ] refl

-- at a request line whose lines are missing
goes_missing : (number : ℕ) (l : List ℕ) (ls : List (List ℕ)) (line : List ℕ) (at : ℕ) → length ls < wanted l → Goes number zero (l ∷ ls) line at
goes_missing number l ls line at h =
    let long = length_push ls line in
    let open_is = begun_missing number l ls h in
    let before : requests_in number zero (l ∷ ls) ≡ [] =
    ap (λ x. x ++ requests_in (number + 1) (wanted l) ls) (at_none number (request_line l) ls h) ∙ no_requests (number + 1) (wanted l) ls (omega arith) in
    record {
      done =
          ap (λ x. request_at number (request_line l) (ls ++ line ∷ []) ++ x) (no_requests (number + 1) (wanted l) (ls ++ line ∷ []) (omega arith))
          ∙ append-nil (request_at number (request_line l) (ls ++ line ∷ []))
          ∙ last_wanted number l ls line h
          ∙ sym (ap (λ x. x ++ completed at (begun_in number zero (l ∷ ls)) line) before ∙ ap (λ b. completed at b line) open_is);
      begun =
          ap (λ x. cond (nat_lt (length (ls ++ line ∷ [])) (wanted l)) (Some (begun_of number l (ls ++ line ∷ []))) x) (none_begun (number + 1) (wanted l) (ls ++ line ∷ []) (omega arith))
          ∙ ap (λ x. cond (nat_lt x (wanted l)) (Some (begun_of number l (ls ++ line ∷ []))) None) long
          ∙ sym (ap (λ b. left_by at b line) open_is);
    }

-- at a request line whose lines are there
goes_there : (number : ℕ) (l : List ℕ) (ls : List (List ℕ)) (line : List ℕ) (at : ℕ) → wanted l ≤ length ls → Goes (number + 1) (wanted l) ls line at → Goes number zero (l ∷ ls) line at
goes_there number l ls line at h goes =
    let long = length_push ls line in
    let open_is = begun_there number l ls h in
    record {
      done =
          ap (λ x. x ++ requests_in (number + 1) (wanted l) (ls ++ line ∷ [])) (at_same number (request_line l) ls line h)
          ∙ ap (λ x. request_at number (request_line l) ls ++ x) (goes.done ∙ ap (λ b. requests_in (number + 1) (wanted l) ls ++ completed at b line) (sym open_is))
          ∙ sym (append_assoc (request_at number (request_line l) ls) (requests_in (number + 1) (wanted l) ls) (completed at (begun_in number zero (l ∷ ls)) line));
      begun = begun_there number l (ls ++ line ∷ []) (omega arith) ∙ goes.begun ∙ ap (λ b. left_by at b line) (sym open_is);
    }

pub goes : (number taken : ℕ) (lines : List (List ℕ)) (line : List ℕ) (at : ℕ) → taken ≤ length lines → at ≡ number + length lines → Goes number taken lines line at
goes number zero [] line at h e =
    let same : number ≡ at = omega arith in
    record {
      done =
          ap (λ x. request_at number (request_line line) [] ++ x) (no_requests (number + 1) (wanted line) [] (omega arith))
          ∙ append-nil (request_at number (request_line line) [])
          ∙ ap (λ n. request_at n (request_line line) []) same;
      begun =
          ap (λ x. cond (nat_lt 0 (wanted line)) (Some (begun_of number line [])) x) (none_begun (number + 1) (wanted line) [] (omega arith))
          ∙ ap (λ n. cond (nat_lt 0 (wanted line)) (Some (begun_of n line [])) None) same;
    }
goes number (suc taken) [] line at h e = absurd (omega arith)
goes number zero (l ∷ ls) line at h e =
    elim (nat_lt (length ls) (wanted l)) as (λ b. nat_lt (length ls) (wanted l) ≡ b → Goes number zero (l ∷ ls) line at) [
      | true ↦ λ t. goes_missing number l ls line at (lt_from (length ls) (wanted l) t)
      | false ↦ λ t. let enough = ge_from (length ls) (wanted l) t in goes_there number l ls line at enough (goes (number + 1) (wanted l) ls line at enough (omega arith))
    ] refl
goes number (suc taken) (l ∷ ls) line at h e =
    let more = goes (number + 1) taken ls line at (omega arith) (omega arith) in
    record { done = more.done; begun = more.begun }

-- ---- the request that the end cuts off

none_cut : (number taken : ℕ) (lines : List (List ℕ)) → length lines ≤ taken → cut_off_in number taken lines ≡ []
none_cut number zero [] h = refl
none_cut number (suc taken) [] h = refl
none_cut number zero (l ∷ ls) h = absurd (omega arith)
none_cut number (suc taken) (l ∷ ls) h = none_cut (number + 1) taken ls (omega arith)

pub cut_off_is : (number taken : ℕ) (lines : List (List ℕ)) → cut_off_in number taken lines ≡ first_of (begun_in number taken lines)
cut_off_is number zero [] = refl
cut_off_is number (suc taken) [] = refl
cut_off_is number zero (l ∷ ls) =
    elim (nat_lt (length ls) (wanted l)) as (λ b. nat_lt (length ls) (wanted l) ≡ b → cond b (number ∷ []) [] ++ cut_off_in (number + 1) (wanted l) ls ≡ first_of (cond b (Some (begun_of number l ls)) (begun_in (number + 1) (wanted l) ls))) [
      | true ↦ λ t. let less = lt_from (length ls) (wanted l) t in ap (λ x. number ∷ x) (none_cut (number + 1) (wanted l) ls (omega arith))
      | false ↦ λ t. cut_off_is (number + 1) (wanted l) ls
    ] refl
cut_off_is number (suc taken) (l ∷ ls) = cut_off_is (number + 1) taken ls
