-- The lines of a text have exactly one list of spans.
use Rattle.std.proofs.Common.{◌≡◌, ℕ, zero, suc, ◌+◌, ◌-◌, ◌<◌, ◌≤◌, ◌⊎◌, inl, inr, ⊎_elim, List, [], ◌∷◌, length, Option, sym, ◌∙◌, subst, refl, arith}
use Rattle.std.specs.List.{AllByRecursion}
use Rattle.std.proofs.lemmas.Bool.{cases_lt}
use Rattle.kumir_tree.specs.declared.token.Token.{Token}
use Rattle.kumir_tree.specs.declared.token.Token.TheVariants as token
use Rattle.kumir_tree.specs.declared.token.Key.TheVariants as key
use Rattle.kumir_tree.specs.declared.token.Spanned.{Spanned}
use Rattle.kumir_lexer.specs.declared.cutting.LexFault.{LexFault}
use Rattle.kumir_lexer.specs.Cutting.{Cut}
use Rattle.line_pieces.specs.Spans.{IsAlgorithmWord, BeginsUnit, line_of, NoneBegins, IsUnitSpan, Cover, AreSpans}
use Rattle.line_pieces.specs.declared.spans.LineSpan.{LineSpan}
use Rattle.line_pieces.proofs.Firsts.{OneCutting}

-- ---- two lists of spans are equal

-- a unit begins at the line, or no line is left
abbrev Stops : List (List ℕ) → ℕ → Type 0
Stops lines at = (at ≡ length lines + 1) ⊎ (BeginsUnit (line_of lines at) × (at ≤ length lines))

same_stop : (lines : List (List ℕ)) (from m n : ℕ) → from ≤ m → from ≤ n → m ≤ length lines + 1 → n ≤ length lines + 1
    → NoneBegins lines from m → NoneBegins lines from n → Stops lines m → Stops lines n → m ≡ n
same_stop lines from m n a b p q none_m none_n stops_m stops_n =
    ⊎_elim
    (λ (l : m < n). absurd (⊎_elim (λ (last : m ≡ length lines + 1). let no_way : ⊥ = omega arith in no_way) (λ (begins : BeginsUnit (line_of lines m) × (m ≤ length lines)). none_n m a l begins.0) stops_m))
    (λ (h : n ≤ m). ⊎_elim
    (λ (l : n < m). absurd (⊎_elim (λ (last : n ≡ length lines + 1). let no_way : ⊥ = omega arith in no_way) (λ (begins : BeginsUnit (line_of lines n) × (n ≤ length lines)). none_m n b l begins.0) stops_n))
    (λ (g : m ≤ n). let e : m ≡ n = omega arith in e)
    (cases_lt n m))
    (cases_lt m n)

cover_behind : (at end : ℕ) (spans : List LineSpan) → Cover at spans end → at ≤ end
cover_behind at end [] c = omega arith
cover_behind at end (s ∷ ss) c = let rest = cover_behind (at + s.count) end ss c.1 in omega arith

stops_at : (lines : List (List ℕ)) (at : ℕ) (units : List LineSpan) → AllByRecursion (IsUnitSpan lines) units → Cover at units (length lines + 1) → Stops lines at
stops_at lines at [] all cover = inl cover
stops_at lines at (u ∷ us) all cover =
    let rest = cover_behind (at + u.count) (length lines + 1) us cover.1 in
    inr (subst (λ k. BeginsUnit (line_of lines k)) cover.0 all.0.begins, omega (arith, all.0.some))

one_from : (lines : List (List ℕ)) (at : ℕ) (us vs : List LineSpan) → AllByRecursion (IsUnitSpan lines) us → Cover at us (length lines + 1)
    → AllByRecursion (IsUnitSpan lines) vs → Cover at vs (length lines + 1) → us ≡ vs
one_from lines at [] [] a c b d = refl
one_from lines at [] (v ∷ vs) a c b d = absurd (let rest = cover_behind (at + v.count) (length lines + 1) vs d.1 in let no_way : ⊥ = omega (arith, b.0.some) in no_way)
one_from lines at (u ∷ us) [] a c b d = absurd (let rest = cover_behind (at + u.count) (length lines + 1) us c.1 in let no_way : ⊥ = omega (arith, a.0.some) in no_way)
one_from lines at (u ∷ us) (v ∷ vs) a c b d =
    let first : u.first ≡ v.first = c.0 ∙ sym d.0 in
    let ends = same_stop lines (at + 1) (at + u.count) (at + v.count) (omega (arith, a.0.some)) (omega (arith, b.0.some))
    (cover_behind (at + u.count) (length lines + 1) us c.1) (cover_behind (at + v.count) (length lines + 1) vs d.1)
    (subst (λ k. NoneBegins lines (k + 1) (k + u.count)) c.0 a.0.rest) (subst (λ k. NoneBegins lines (k + 1) (k + v.count)) d.0 b.0.rest)
    (stops_at lines (at + u.count) us a.1 c.1) (stops_at lines (at + v.count) vs b.1 d.1) in
    let count : u.count ≡ v.count = omega (arith, ends) in
    let rest = one_from lines (at + u.count) us vs a.1 c.1 b.1 (subst (λ k. Cover (at + k) vs (length lines + 1)) (sym count) d.1) in
    (λ i. record { first = first i; count = count i } ∷ rest i)

pub one_list : (lines : List (List ℕ)) (ss rs : List LineSpan) → AreSpans lines ss → AreSpans lines rs → ss ≡ rs
one_list lines [] rs a b = absurd a
one_list lines (s ∷ ss) [] a b = absurd b
one_list lines (s ∷ ss) (r ∷ rs) a b =
    let first : s.first ≡ r.first = a.2.0 ∙ sym b.2.0 in
    let ends = same_stop lines 1 (1 + s.count) (1 + r.count) (omega arith) (omega arith)
    (cover_behind (1 + s.count) (length lines + 1) ss a.2.1) (cover_behind (1 + r.count) (length lines + 1) rs b.2.1)
    a.0 b.0 (stops_at lines (1 + s.count) ss a.1 a.2.1) (stops_at lines (1 + r.count) rs b.1 b.2.1) in
    let count : s.count ≡ r.count = omega (arith, ends) in
    let rest = one_from lines (1 + s.count) ss rs a.1 a.2.1 b.1 (subst (λ k. Cover (1 + k) rs (length lines + 1)) (sym count) b.2.1) in
    (λ i. record { first = first i; count = count i } ∷ rest i)

-- ---- there is one

-- each line has a cutting
abbrev pub SomeCutting : Type 0
SomeCutting = (line : List ℕ) → (tokens : List Spanned) × (fault : Option LexFault) × Cut line tokens fault

is_word : (t : Token) → (t ≡ token.Key key.Algorithm) ⊎ (t ≡ token.Key key.Algorithm → ⊥)
is_word (token.Key key.Algorithm) = inl refl
is_word t = inr (λ e. let no_way : ⊥ = cc in no_way)

word_or_not : (tokens : List Spanned) → IsAlgorithmWord tokens ⊎ (IsAlgorithmWord tokens → ⊥)
word_or_not [] = inr (λ h. h)
word_or_not (t ∷ ts) = is_word t.token

begins_or_not : SomeCutting → OneCutting → (line : List ℕ) → BeginsUnit line ⊎ (BeginsUnit line → ⊥)
unfolding BeginsUnit
begins_or_not some only line =
    let cut = some line in
    ⊎_elim
    (λ (word : IsAlgorithmWord cut.0). inl (cut.0, cut.1, cut.2, word))
    (λ (other : IsAlgorithmWord cut.0 → ⊥). inr (λ begins. other (subst IsAlgorithmWord (only line begins.0 cut.0 begins.1 cut.1 begins.2 cut.2).0 begins.3)))
    (word_or_not cut.0)

-- the lines from a number on, up to the next one that begins a unit
pub record NextUnit (lines : List (List ℕ)) (from : ℕ) : Type 0 where
  pub end : ℕ
  pub behind : from ≤ end
  pub within : end ≤ length lines + 1
  pub none : NoneBegins lines from end
  pub stops : Stops lines end

next_unit : SomeCutting → OneCutting → (lines : List (List ℕ)) (n from : ℕ) → from + n ≡ length lines + 1 → NextUnit lines from
next_unit some only lines zero from e = record {
  end = from;
  behind = omega arith;
  within = omega arith;
  none = λ k l m. absurd (omega arith);
  stops = inl (omega arith);
}
next_unit some only lines (suc n) from e =
    ⊎_elim
    (λ (begins : BeginsUnit (line_of lines from)). record {
      end = from;
      behind = omega arith;
      within = omega arith;
      none = λ k l m. absurd (omega arith);
      stops = inr (begins, omega arith);
    })
    (λ (other : BeginsUnit (line_of lines from) → ⊥).
    let later = next_unit some only lines n (from + 1) (omega arith) in
    record {
      end = later.end;
      behind = omega (arith, later.behind);
      within = later.within;
      none = λ k l m. ⊎_elim (λ (below : from < k). later.none k (omega arith) m) (λ (here : k ≤ from). λ b. other (subst (λ j. BeginsUnit (line_of lines j)) (let e : k ≡ from = omega arith in e) b)) (cases_lt from k);
      stops = later.stops;
    })
    (begins_or_not some only (line_of lines from))

abbrev SomeUnits : List (List ℕ) → ℕ → Type 0
SomeUnits lines at = (us : List LineSpan) × AllByRecursion (IsUnitSpan lines) us × Cover at us (length lines + 1)

one_more : (lines : List (List ℕ)) (at : ℕ) → BeginsUnit (line_of lines at) → (later : NextUnit lines (at + 1)) → SomeUnits lines later.end → SomeUnits lines at
one_more lines at begins later units =
    let ends : at + (later.end - at) ≡ later.end = omega (arith, later.behind) in (
      record { first = at; count = later.end - at } ∷ units.0,
      (record { some = omega (arith, later.behind); begins = begins; rest = subst (NoneBegins lines (at + 1)) (sym ends) later.none }, units.1),
      (refl, subst (λ k. Cover k units.0 (length lines + 1)) (sym ends) units.2),
    )

units_from : SomeCutting → OneCutting → (lines : List (List ℕ)) (n at : ℕ) → length lines + 1 ≤ at + n → Stops lines at → SomeUnits lines at
units_from some only lines zero at h stops =
    ⊎_elim (λ (last : at ≡ length lines + 1). ([], tt, last)) (λ (begins : BeginsUnit (line_of lines at) × (at ≤ length lines)). absurd (let no_way : ⊥ = omega (arith, begins.1) in no_way)) stops
units_from some only lines (suc n) at h stops =
    ⊎_elim (λ (last : at ≡ length lines + 1). ([], tt, last))
    (λ (begins : BeginsUnit (line_of lines at) × (at ≤ length lines)).
    let later = next_unit some only lines (length lines - at) (at + 1) (omega (arith, begins.1)) in
    one_more lines at begins.0 later (units_from some only lines n later.end (omega (arith, later.behind)) later.stops))
    stops

pub some_list : SomeCutting → OneCutting → (lines : List (List ℕ)) → (spans : List LineSpan) × AreSpans lines spans
some_list some only lines =
    let first = next_unit some only lines (length lines) 1 (omega arith) in
    let units = units_from some only lines (length lines) first.end (omega (arith, first.behind)) first.stops in
    let ends : 1 + (first.end - 1) ≡ first.end = omega (arith, first.behind) in (
      record { first = 1; count = first.end - 1 } ∷ units.0,
      (subst (NoneBegins lines 1) (sym ends) first.none, units.1, (refl, subst (λ k. Cover k units.0 (length lines + 1)) (sym ends) units.2)),
    )
