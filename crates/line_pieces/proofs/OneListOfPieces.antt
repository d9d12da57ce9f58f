-- A list of tokens has exactly one list of pieces.
use Rattle.std.proofs.Common.{◌≡◌, ℕ, zero, suc, ◌+◌, ◌-◌, ◌<◌, ◌≤◌, Some, inl, ⊎_elim, Bool, true, false, ◌&&◌, nat_eq, List, [], ◌∷◌, length, map, get_or, ap, sym, ◌∙◌, subst, refl, arith}
use Rattle.std.specs.List.{slice_get, slice_range}
use Rattle.std.proofs.lemmas.List.{length-map}
use Rattle.std.proofs.lemmas.Bool.{cases_lt, false≢true}
use Rattle.std.proofs.lemmas.Bool.Decides.{nat_tests}
use Rattle.kumir_tree.specs.declared.token.Token.{Token}
use Rattle.kumir_tree.specs.declared.token.Token.TheVariants as token
use Rattle.kumir_tree.specs.declared.token.Key.TheVariants as key
use Rattle.kumir_tree.specs.declared.token.Spanned.{Spanned}
use Rattle.expr_forms.specs.Tokens.{tokens_of}
use Rattle.line_pieces.specs.Ends.{is_when, is_colon, is_semicolon, SomeIs, ends_between, IsMark, squares, IsFreeColon, IsEnd, OnlySemicolons, IsPiece, ArePieces, Pieces}
use Rattle.line_pieces.specs.declared.pieces.Piece.{Piece}
use Rattle.line_pieces.proofs.Places.{NoMarks, NoFreeColons, no_ends, mark_same, when_is, colon_is, case_here, one_further, last_end, first_end, piece_more, semicolon_more, nothing_more}

-- ---- two lists of pieces are equal

-- two places behind semicolons, neither of which has one itself
same_begin : (tokens : List Token) (at m n : ℕ) → OnlySemicolons tokens at m → OnlySemicolons tokens at n
    → (SomeIs is_semicolon (slice_get tokens m) → ⊥) → (SomeIs is_semicolon (slice_get tokens n) → ⊥) → m ≡ n
same_begin tokens at m n a b p q =
    ⊎_elim
    (λ (l : m < n). absurd (p (b.1 m a.0 l)))
    (λ (h : n ≤ m). ⊎_elim (λ (l : n < m). absurd (q (a.1 n b.0 l))) (λ (g : m ≤ n). let e : m ≡ n = omega arith in e) (cases_lt n m))
    (cases_lt m n)

-- two pieces from one place end together
same_end : (tokens : List Token) (p q : Piece) → p.from ≡ q.from → IsPiece tokens p → IsPiece tokens q → p.to ≡ q.to
same_end tokens p q e a b =
    ⊎_elim
    (λ (l : p.to < q.to). absurd (b.whole p.to (omega (arith, a.some)) l a.ends))
    (λ (h : q.to ≤ p.to). ⊎_elim (λ (l : q.to < p.to). absurd (a.whole q.to (omega (arith, b.some)) l b.ends)) (λ (g : p.to ≤ q.to). let s : p.to ≡ q.to = omega arith in s) (cases_lt q.to p.to))
    (cases_lt p.to q.to)

-- no piece stands among semicolons
none_there : (tokens : List Token) (at : ℕ) (p : Piece) → OnlySemicolons tokens at (length tokens) → OnlySemicolons tokens at p.from → IsPiece tokens p → ⊥
none_there tokens at p all before piece = piece.counts (all.1 p.from before.0 (omega (arith, piece.some, piece.within)))

one_from : (tokens : List Token) (at : ℕ) (ps qs : List Piece) → ArePieces tokens at ps → ArePieces tokens at qs → ps ≡ qs
one_from tokens at [] [] a b = refl
one_from tokens at [] (q ∷ qs) a b = absurd (none_there tokens at q a b.0 b.1)
one_from tokens at (p ∷ ps) [] a b = absurd (none_there tokens at p b a.0 a.1)
one_from tokens at (p ∷ ps) (q ∷ qs) a b =
    let begin = same_begin tokens at p.from q.from a.0 b.0 a.1.counts b.1.counts in
    let end = same_end tokens p q begin a.1 b.1 in
    let rest = one_from tokens p.to ps qs a.2 (subst (λ k. ArePieces tokens k qs) (sym end) b.2) in
    (λ i. record { from = begin i; to = end i } ∷ rest i)

pub one_list : (tokens : List Token) (ps qs : List Piece) → Pieces tokens ps → Pieces tokens qs → ps ≡ qs
one_list tokens ps qs a b = one_from tokens 0 ps qs a b

-- ---- there is one

-- the next end behind a place
pub record NextEnd (xs : List Spanned) (b : ℕ) : Type 0 where
  pub end : ℕ
  pub behind : b < end
  pub within : end ≤ length xs
  pub ends : IsEnd (tokens_of xs) end
  pub whole : (k : ℕ) → b < k → k < end → IsEnd (tokens_of xs) k → ⊥

-- behind `b` there is no end up to this place
pub record NoneSoFar (xs : List Spanned) (d : Spanned) (b at : ℕ) : Type 0 where
  pub begins : IsEnd (tokens_of xs) b
  pub behind : b ≤ at
  pub bare : NoMarks (tokens_of xs) b (at + 1)
  pub first : is_when (get_or xs b d).token ≡ true → NoFreeColons (tokens_of xs) b (at + 1)

end_here : (xs : List Spanned) (d : Spanned) (b at : ℕ) → NoneSoFar xs d b at → at + 1 ≤ length xs → IsEnd (tokens_of xs) (at + 1) → NextEnd xs b
end_here xs d b at s within ends = record {
  end = at + 1;
  behind = omega (arith, s.behind);
  within = within;
  ends = ends;
  whole = no_ends (tokens_of xs) b (at + 1) s.begins s.bare (λ w. s.first (when_is xs b d (is_when (get_or xs b d).token) (omega (arith, s.behind)) refl w));
}

three_true : (a b : Bool) (n : ℕ) → (a && (b && nat_eq n 0)) ≡ true → (a ≡ true) × (b ≡ true) × (n ≡ 0)
three_true true true n e = (refl, refl, grind (arith, nat_tests, e))
three_true true false n e = absurd (false≢true e)
three_true false b n e = absurd (false≢true e)

all_three : (a b : Bool) (n : ℕ) → a ≡ true → b ≡ true → n ≡ 0 → (a && (b && nat_eq n 0)) ≡ true
all_three a b n p q r = rw (p, q, r) refl

-- whether a piece that begins with `при` ends behind this place
abbrev closes : List Spanned → Spanned → ℕ → ℕ → Bool
closes xs d b at = is_when (get_or xs b d).token && (is_colon (get_or xs at d).token && nat_eq (squares (slice_range (tokens_of xs) b (at + 1))) 0)

by_colon : (xs : List Spanned) (d : Spanned) (b at : ℕ) (r : Bool) → closes xs d b at ≡ r → at + 1 < length xs → NoneSoFar xs d b at
    → (IsMark (tokens_of xs) (at + 1) → ⊥) → (NoneSoFar xs d b (at + 1) → NextEnd xs b) → NextEnd xs b
by_colon xs d b at true e h s bare next =
    let t = three_true (is_when (get_or xs b d).token) (is_colon (get_or xs at d).token) (squares (slice_range (tokens_of xs) b (at + 1))) e in
    end_here xs d b at s (omega arith) (case_here xs b at d d s.begins s.behind (omega arith) t.0 t.1 t.2 s.bare (s.first t.0))
by_colon xs d b at false e h s bare next = next (record {
  begins = s.begins;
  behind = omega (arith, s.behind);
  bare = λ k less below. one_further (λ j. b < j → IsMark (tokens_of xs) j → ⊥) (at + 1) (λ j l g. s.bare j g l) (λ g. bare) k below less;
  first = λ w k below. one_further (λ j. IsFreeColon (tokens_of xs) b j → ⊥) (at + 1) (s.first w)
      (λ free. false≢true (sym e ∙ all_three (is_when (get_or xs b d).token) (is_colon (get_or xs at d).token) (squares (slice_range (tokens_of xs) b (at + 1))) w (colon_is xs at d (omega arith) free.1) free.2))
      k below;
})

by_mark : (xs : List Spanned) (d : Spanned) (b at : ℕ) (r : Bool) → ends_between (Some (get_or xs at d).token) (Some (get_or xs (at + 1) d).token) ≡ r
    → at + 1 < length xs → NoneSoFar xs d b at → (NoneSoFar xs d b (at + 1) → NextEnd xs b) → NextEnd xs b
by_mark xs d b at true e h s next = end_here xs d b at s (omega arith) (inl (mark_same xs at d d h ∙ e))
by_mark xs d b at false e h s next =
    by_colon xs d b at (closes xs d b at) refl h s (λ mark. false≢true (sym e ∙ (sym (mark_same xs at d d h) ∙ mark))) next

end_from : (xs : List Spanned) (d : Spanned) (b at n : ℕ) → at + n + 1 ≡ length xs → NoneSoFar xs d b at → NextEnd xs b
end_from xs d b at zero e s =
    let last : length xs ≡ at + 1 = omega arith in
    end_here xs d b at s (omega arith) (subst (IsEnd (tokens_of xs)) last (last_end xs))
end_from xs d b at (suc n) e s =
    by_mark xs d b at (ends_between (Some (get_or xs at d).token) (Some (get_or xs (at + 1) d).token)) refl (omega arith) s (end_from xs d b (at + 1) n (omega arith))

next_end : (xs : List Spanned) (d : Spanned) (b : ℕ) → IsEnd (tokens_of xs) b → b < length xs → NextEnd xs b
next_end xs d b begins h = end_from xs d b b (length xs - b - 1) (omega arith) (record {
  begins = begins;
  behind = omega arith;
  bare = λ k less below. absurd (omega arith);
  first = λ w k below free. omega (arith, free.0);
})

abbrev SomePieces : List Spanned → ℕ → Type 0
SomePieces xs at = (ps : List Piece) × ArePieces (tokens_of xs) at ps

by_semicolon : (xs : List Spanned) (d : Spanned) (b : ℕ) (r : Bool) → is_semicolon (get_or xs b d).token ≡ r → b < length xs → IsEnd (tokens_of xs) b
    → (e : NextEnd xs b) → SomePieces xs e.end → SomePieces xs b
by_semicolon xs d b true is h begins e rest = (rest.0, semicolon_more xs b e.end d rest.0 e.behind e.within h e.whole is rest.1)
by_semicolon xs d b false is h begins e rest =
    (record { from = b; to = e.end } ∷ rest.0, piece_more xs b e.end d rest.0 e.behind e.within h begins e.ends e.whole is rest.1)

pieces_from : (xs : List Spanned) (d : Spanned) (n b : ℕ) → b ≤ length xs → length xs ≤ b + n → IsEnd (tokens_of xs) b → SomePieces xs b
pieces_from xs d zero b h l begins = ([], nothing_more (tokens_of xs) b (let e : length (tokens_of xs) ≡ b = rw length-map (omega arith) in e))
pieces_from xs d (suc n) b h l begins =
    ⊎_elim
    (λ (less : b < length xs).
    let e = next_end xs d b begins less in
    by_semicolon xs d b (is_semicolon (get_or xs b d).token) refl less begins e (pieces_from xs d n e.end e.within (omega (arith, e.behind)) e.ends))
    (λ (more : length xs ≤ b). ([], nothing_more (tokens_of xs) b (let e : length (tokens_of xs) ≡ b = rw length-map (omega arith) in e)))
    (cases_lt b (length xs))

-- tokens at any places
abbrev placed : Token → Spanned
placed t = record { token = t; from = 0; to = 0 }

tokens_placed : (tokens : List Token) → tokens_of (map placed tokens) ≡ tokens
tokens_placed [] = refl
tokens_placed (t ∷ ts) = ap (λ l. t ∷ l) (tokens_placed ts)

pub some_list : (tokens : List Token) → (pieces : List Piece) × Pieces tokens pieces
some_list tokens =
    let xs = map placed tokens in
    let found = pieces_from xs (placed (token.Key key.When)) (length xs) 0 (omega arith) (omega arith) (first_end (tokens_of xs)) in
    (found.0, subst (λ ts. ArePieces ts 0 found.0) (tokens_placed tokens) found.1)
