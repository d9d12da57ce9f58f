-- Where pieces end.
use Rattle.std.proofs.Common.{◌≡◌, ℕ, ◌+◌, ◌<◌, ◌≤◌, ◌⊎◌, inl, inr, ⊎_elim, Bool, true, false, List, [], ◌∷◌, ◌++◌, length, Option, Some, None, get_or, ap, sym, ◌∙◌, subst, refl, arith}
use Rattle.std.specs.List.{slice_get, slice_range}
use Rattle.std.specs.Option.{option_map}
use Rattle.std.proofs.Common.{rules, tests}
use Rattle.std.proofs.lemmas.List.{length-map}
use Rattle.std.proofs.Math.Nat.{eq-or-lt_of_le}
use Rattle.std.proofs.lemmas.Bool.{cases_lt}
use Rattle.std.proofs.lemmas.List.Edits.{between_more}
use Rattle.std.proofs.lemmas.List.Sums.{fold-append}
use Rattle.std.proofs.lemmas.Option.{slice_get-get_or, slice_get-map, get_or_from_slice_get, slice_get_past}
use Rattle.kumir_tree.specs.declared.token.Token.TheVariants as token
use Rattle.kumir_tree.specs.declared.token.Key.TheVariants as key
use Rattle.kumir_tree.specs.declared.token.Sign.TheVariants as sign
use Rattle.kumir_tree.specs.declared.token.Token.{Token}
use Rattle.kumir_tree.specs.declared.token.Spanned.{Spanned}
use Rattle.expr_forms.specs.Tokens.{tokens_of}
use Rattle.line_pieces.specs.Ends.{is_when, is_colon, is_semicolon, SomeIs, ends_between, token_before, IsMark, count_square, squares, IsFreeColon, EndsCase, IsEnd, OnlySemicolons, ArePieces}
use Rattle.line_pieces.specs.declared.pieces.Piece.{Piece}

three : (m n : ℕ) → (m < n) ⊎ ((m ≡ n) ⊎ (n < m))
three m n = ⊎_elim (λ (h : m < n). inl h) (λ (h : n ≤ m). inr (⊎_elim (λ (e : n ≡ m). inl (sym e)) (λ (l : n < m). inr l) (eq-or-lt_of_le h))) (cases_lt m n)

-- no place between is a mark
abbrev pub NoMarks : List Token → ℕ → ℕ → Type 0
NoMarks tokens from to = (k : ℕ) → from < k → k < to → IsMark tokens k → ⊥

abbrev pub NoFreeColons : List Token → ℕ → ℕ → Type 0
NoFreeColons tokens from to = (k : ℕ) → k < to → IsFreeColon tokens from k → ⊥

-- a piece that ends behind a colon within a piece without marks is that piece
pub case_from : (tokens : List Token) (b k : ℕ) → IsEnd tokens b → b < k → NoMarks tokens b k → EndsCase tokens k → SomeIs is_when (slice_get tokens b) × IsFreeColon tokens b k
case_from tokens b k e less bare c =
    ⊎_elim
    (λ (above : b < c.begin). absurd (bare c.begin above c.colon.0 c.marked))
    (λ (or : (b ≡ c.begin) ⊎ (c.begin < b)).
    ⊎_elim
    (λ (same : b ≡ c.begin). subst (λ x. SomeIs is_when (slice_get tokens x) × IsFreeColon tokens x k) (sym same) (c.when, c.colon))
    (λ (below : c.begin < b). absurd (⊎_elim
    (λ (mark : IsMark tokens b). c.unbroken b below less mark)
    (λ (d : EndsCase tokens b).
    ⊎_elim
    (λ (more : c.begin < d.begin). c.unbroken d.begin more (omega (arith, d.colon.0)) d.marked)
    (λ (or : (c.begin ≡ d.begin) ⊎ (d.begin < c.begin)).
    ⊎_elim
    (λ (same : c.begin ≡ d.begin). c.first b less (subst (λ x. IsFreeColon tokens x b) (sym same) d.colon))
    (λ (fewer : d.begin < c.begin). d.unbroken c.begin fewer below c.marked)
    or)
    (three c.begin d.begin))
    e))
    or)
    (three b c.begin)

-- no place between is an end
pub no_ends : (tokens : List Token) (b to : ℕ) → IsEnd tokens b → NoMarks tokens b to → (SomeIs is_when (slice_get tokens b) → NoFreeColons tokens b to) → (k : ℕ) → b < k → k < to → IsEnd tokens k → ⊥
no_ends tokens b to e bare free k less below (inl mark) = bare k less below mark
no_ends tokens b to e bare free k less below (inr c) =
    let f = case_from tokens b k e less (λ j h i. bare j h (omega arith)) c in
    free f.0 k below f.1

-- a place before `при` that is an end is one by its neighbours
pub case_mark : (left : Option Token) (t : Token) → SomeIs is_colon left → is_when t ≡ true → ends_between left (Some t) ≡ true
case_mark None t c w = absurd c
case_mark (Some (token.Sign sign.Colon)) (token.Key key.When) c w = refl
case_mark (Some (token.Sign sign.Colon)) t c w = absurd (let none : ⊥ = cc in none)
case_mark (Some l) t c w = absurd (let none : ⊥ = cc in none)

-- ---- reading the tokens

pub token_at : (xs : List Spanned) (i : ℕ) (d : Spanned) → i < length xs → slice_get (tokens_of xs) i ≡ Some (get_or xs i d).token
token_at xs i d h = slice_get-map (λ t. t.token) xs i ∙ ap (option_map (λ t. t.token)) (slice_get-get_or xs i d h)

pub before_next : (tokens : List Token) (at : ℕ) → token_before tokens (at + 1) ≡ slice_get tokens at
before_next tokens at = search (rules, tests)

pub squares_next : (tokens : List Token) (b at : ℕ) (t : Token) → b ≤ at → at < length tokens → slice_get tokens at ≡ Some t → squares (slice_range tokens b (at + 1)) ≡ count_square (squares (slice_range tokens b at)) t
squares_next tokens b at t h l e =
    ap squares (between_more tokens b at t h l ∙ ap (λ x. slice_range tokens b at ++ x ∷ []) (get_or_from_slice_get tokens at t t e)) ∙ fold-append count_square 0 (slice_range tokens b at) (t ∷ [])

pub count_most : (n : ℕ) (t : Token) → count_square n t ≤ n + 1
count_most n (token.Sign sign.OpenSquare) = omega arith
count_most n (token.Sign sign.CloseSquare) = omega arith
count_most n t = omega arith

-- ---- what the reader of a line knows

pub mark_same : (xs : List Spanned) (at : ℕ) (d e : Spanned) → at + 1 < length xs
    → ends_between (token_before (tokens_of xs) (at + 1)) (slice_get (tokens_of xs) (at + 1)) ≡ ends_between (Some (get_or xs at d).token) (Some (get_or xs (at + 1) e).token)
mark_same xs at d e h =
    ap (λ o. ends_between o (slice_get (tokens_of xs) (at + 1))) (before_next (tokens_of xs) at ∙ token_at xs at d (omega arith)) ∙ ap (ends_between (Some (get_or xs at d).token)) (token_at xs (at + 1) e h)

pub when_is : (xs : List Spanned) (b : ℕ) (d : Spanned) (is_case : Bool) → b < length xs → is_case ≡ is_when (get_or xs b d).token → SomeIs is_when (slice_get (tokens_of xs) b) → is_case ≡ true
when_is xs b d is_case h w s = w ∙ subst (SomeIs is_when) (token_at xs b d h) s

pub colon_is : (xs : List Spanned) (at : ℕ) (d : Spanned) → at < length xs → SomeIs is_colon (token_before (tokens_of xs) (at + 1)) → is_colon (get_or xs at d).token ≡ true
colon_is xs at d h s = subst (SomeIs is_colon) (before_next (tokens_of xs) at ∙ token_at xs at d h) s

pub squares_here : (xs : List Spanned) (b at n m : ℕ) (d : Spanned) → b ≤ at → at < length xs → n ≡ squares (slice_range (tokens_of xs) b at) → m ≡ count_square n (get_or xs at d).token → m ≡ squares (slice_range (tokens_of xs) b (at + 1))
squares_here xs b at n m d h l same next =
    next ∙ (ap (λ k. count_square k (get_or xs at d).token) same ∙ sym (squares_next (tokens_of xs) b at (get_or xs at d).token h (rw length-map l) (token_at xs at d l)))

when_mark : (tokens : List Token) (b : ℕ) (t : Token) → slice_get tokens b ≡ Some t → is_when t ≡ true → IsEnd tokens b → IsMark tokens b
when_mark tokens b t e w (inl mark) = mark
when_mark tokens b t e w (inr c) = subst (λ o. ends_between (token_before tokens b) o ≡ true) (sym e) (case_mark (token_before tokens b) t c.colon.1 w)

pub case_here : (xs : List Spanned) (b at : ℕ) (d e : Spanned) → IsEnd (tokens_of xs) b → b ≤ at → at < length xs
    → is_when (get_or xs b d).token ≡ true → is_colon (get_or xs at e).token ≡ true → squares (slice_range (tokens_of xs) b (at + 1)) ≡ 0
    → NoMarks (tokens_of xs) b (at + 1) → NoFreeColons (tokens_of xs) b (at + 1) → IsEnd (tokens_of xs) (at + 1)
case_here xs b at d e end h l w colon none bare free = inr (record {
  begin = b;
  marked = when_mark (tokens_of xs) b (get_or xs b d).token (token_at xs b d (omega arith)) w end;
  when = subst (SomeIs is_when) (sym (token_at xs b d (omega arith))) w;
  unbroken = bare;
  colon = (omega arith, subst (SomeIs is_colon) (sym (before_next (tokens_of xs) at ∙ token_at xs at e l)) colon, none);
  first = free;
})

pub one_further : (P : ℕ → Type 0) (n : ℕ) → ((k : ℕ) → k < n → P k) → P n → (k : ℕ) → k < n + 1 → P k
one_further P n below here k h = ⊎_elim (λ (l : k < n). below k l) (λ (m : n ≤ k). subst P (let e : n ≡ k = omega arith in e) here) (cases_lt k n)

ends_none : (o : Option Token) → ends_between o None ≡ true
ends_none None = refl
ends_none (Some t) = refl

pub last_end : (xs : List Spanned) → IsEnd (tokens_of xs) (length xs)
last_end xs = inl (ap (ends_between (token_before (tokens_of xs) (length xs))) (slice_get_past (tokens_of xs) (length xs) (rw length-map (omega arith))) ∙ ends_none (token_before (tokens_of xs) (length xs)))

first_none : (o : Option Token) → ends_between None o ≡ true
first_none None = refl
first_none (Some t) = refl

pub first_end : (tokens : List Token) → IsEnd tokens 0
first_end tokens = inl (first_none (slice_get tokens 0))

-- ---- a piece more

not_semicolon : (tokens : List Token) (b : ℕ) (t : Token) → slice_get tokens b ≡ Some t → is_semicolon t ≡ false → SomeIs is_semicolon (slice_get tokens b) → ⊥
not_semicolon tokens b t e n s = let h : true ≡ false = sym (subst (SomeIs is_semicolon) e s) ∙ n in absurd (let none : ⊥ = cc in none)

pub piece_more : (xs : List Spanned) (b e : ℕ) (d : Spanned) (ps : List Piece) → b < e → e ≤ length xs → b < length xs → IsEnd (tokens_of xs) b → IsEnd (tokens_of xs) e
    → ((k : ℕ) → b < k → k < e → IsEnd (tokens_of xs) k → ⊥) → is_semicolon (get_or xs b d).token ≡ false → ArePieces (tokens_of xs) e ps
    → ArePieces (tokens_of xs) b (record { from = b; to = e } ∷ ps)
piece_more xs b e d ps some within inside begins ends whole counts rest = (
  (omega arith, λ k h l. absurd (omega arith)),
  record {
    some = some;
    within = rw length-map within;
    begins = begins;
    ends = ends;
    whole = whole;
    counts = not_semicolon (tokens_of xs) b (get_or xs b d).token (token_at xs b d inside) counts;
  },
  rest,
)

-- a semicolon is a piece by itself, and belongs to none
semicolon_ends : (left right : Token) → is_semicolon left ≡ true → ends_between (Some left) (Some right) ≡ true
semicolon_ends (token.Sign sign.Semicolon) right h = search (rules, tests)
semicolon_ends left right h = absurd (let none : ⊥ = cc in none)

semicolon_alone : (xs : List Spanned) (b e : ℕ) (d : Spanned) → b < e → e ≤ length xs → ((k : ℕ) → b < k → k < e → IsEnd (tokens_of xs) k → ⊥) → is_semicolon (get_or xs b d).token ≡ true → e ≡ b + 1
semicolon_alone xs b e d some within whole s =
    ⊎_elim
    (λ (more : b + 1 < e). absurd (whole (b + 1) (omega arith) more (inl (mark_same xs b d d (omega arith) ∙ semicolon_ends (get_or xs b d).token (get_or xs (b + 1) d).token s))))
    (λ (less : e ≤ b + 1). omega arith)
    (cases_lt (b + 1) e)

only_one : (tokens : List Token) (b to : ℕ) → SomeIs is_semicolon (slice_get tokens b) → OnlySemicolons tokens (b + 1) to → OnlySemicolons tokens b to
only_one tokens b to s o = (
  omega (arith, o.0),
  λ k h l.
      ⊎_elim (λ (less : b < k). o.1 k (omega arith) l) (λ (more : k ≤ b). subst (λ j. SomeIs is_semicolon (slice_get tokens j)) (let e : b ≡ k = omega arith in e) s) (cases_lt b k),
)

passed : (tokens : List Token) (b : ℕ) (ps : List Piece) → SomeIs is_semicolon (slice_get tokens b) → ArePieces tokens (b + 1) ps → ArePieces tokens b ps
passed tokens b [] s a = only_one tokens b (length tokens) s a
passed tokens b (p ∷ ps) s a = (only_one tokens b p.from s a.0, a.1, a.2)

pub semicolon_more : (xs : List Spanned) (b e : ℕ) (d : Spanned) (ps : List Piece) → b < e → e ≤ length xs → b < length xs
    → ((k : ℕ) → b < k → k < e → IsEnd (tokens_of xs) k → ⊥) → is_semicolon (get_or xs b d).token ≡ true → ArePieces (tokens_of xs) e ps → ArePieces (tokens_of xs) b ps
semicolon_more xs b e d ps some within inside whole s rest =
    passed (tokens_of xs) b ps (subst (SomeIs is_semicolon) (sym (token_at xs b d inside)) s) (subst (λ k. ArePieces (tokens_of xs) k ps) (semicolon_alone xs b e d some within whole s) rest)

pub nothing_more : (tokens : List Token) (n : ℕ) → length tokens ≡ n → ArePieces tokens n []
nothing_more tokens n e = (omega arith, λ k h l. absurd (omega arith))
