-- Of the lines of a unit or of a prelude exactly one thing is read.
use Rattle.std.proofs.Common.{◌≡◌, ◌≢◌, ℕ, ◌⊎◌, inl, inr, ⊎_elim, Bool, false, if◌then◌else◌, List, [], ◌∷◌, None, slice_range, sym, ◌∙◌, ap, subst, refl}
use Rattle.kumir_tree.specs.declared.token.Token.{Token}
use Rattle.kumir_tree.specs.declared.token.Spanned.{Spanned}
use Rattle.kumir_tree.specs.Sound.{no_performers}
use Rattle.kumir_tree.specs.Unit.{Ending, Faulty, Known}
use Rattle.expr_forms.specs.Tokens.{tokens_of}
use Rattle.expr_forms.specs.Answers.{IsShallow, HasForm, HasNoForm}
use Rattle.expr_forms.specs.Brackets.{IsDeep}
use Rattle.expr_forms.specs.Laws.{OneForm, HasFormOrNone, IsDeepOrShallow}
use Rattle.line_pieces.specs.declared.pieces.Piece as range
use Rattle.line_pieces.specs.Ends.{Pieces}
use Rattle.line_pieces.specs.Laws.{EachHasPieces, OneListOfPieces}
use Rattle.line_pieces.specs.Spans.{FirstBegins}
use Rattle.line_pieces.proofs.Firsts.{OneCutting}
use Rattle.line_pieces.proofs.OneListOfSpans.{SomeCutting}
use Rattle.unit_grammar.specs.Laws.{EachEnds, OneEnding}
use Rattle.algo_parser.specs.Units.{Heard, Understood, NotUnderstood, TooDeep, Hears, HearsAll, Said, Says, SayAll, lexical_faults, piece_faults, forms_of, header_of, uses_of, performers_of, unknown_of, Ends, Makes, UnitReads}
use Rattle.algo_parser.proofs.FirstForms.{some_form}

-- what this stands on: the laws of the crates below
pub record Below : Type 0 where
  pub some_cutting : SomeCutting
  pub one_cutting : OneCutting
  pub some_pieces : EachHasPieces
  pub one_pieces : OneListOfPieces
  pub one_form : OneForm
  pub form_or_none : HasFormOrNone
  pub deep_or_shallow : IsDeepOrShallow
  pub some_ending : EachEnds
  pub one_ending : OneEnding

-- ---- pieces

some_heard : Below → (ts : List Token) → (h : Heard) × Hears ts h
some_heard below ts =
    ⊎_elim
    (λ (deep : IsDeep ts). (TooDeep, deep))
    (λ (shallow : IsShallow ts).
    ⊎_elim (λ (f : HasForm ts). (Understood f.0, (shallow, f.1))) (λ (never : HasNoForm ts). (NotUnderstood, (shallow, never))) (below.form_or_none ts))
    (below.deep_or_shallow ts)

one_heard : Below → (ts : List Token) (g h : Heard) → Hears ts g → Hears ts h → g ≡ h
one_heard below ts (Understood f) (Understood g) a b = ap Understood (below.one_form ts f g a.1 b.1)
one_heard below ts (Understood f) NotUnderstood a b = absurd (b.1 f a.1)
one_heard below ts (Understood f) TooDeep a b = absurd (a.0 b)
one_heard below ts NotUnderstood (Understood g) a b = absurd (a.1 g b.1)
one_heard below ts NotUnderstood NotUnderstood a b = refl
one_heard below ts NotUnderstood TooDeep a b = absurd (a.0 b)
one_heard below ts TooDeep (Understood g) a b = absurd (b.0 a)
one_heard below ts TooDeep NotUnderstood a b = absurd (b.0 a)
one_heard below ts TooDeep TooDeep a b = refl

some_heards : Below → (tokens : List Token) (ps : List range.Piece) → (hs : List Heard) × HearsAll tokens ps hs
some_heards below tokens [] = ([], tt)
some_heards below tokens (p ∷ ps) =
    let first = some_heard below (slice_range tokens p.from p.to) in
    let rest = some_heards below tokens ps in
    (first.0 ∷ rest.0, (first.1, rest.1))

one_heards : Below → (tokens : List Token) (ps : List range.Piece) (gs hs : List Heard) → HearsAll tokens ps gs → HearsAll tokens ps hs → gs ≡ hs
one_heards below tokens [] [] [] a b = refl
one_heards below tokens [] [] (h ∷ hs) a b = absurd b
one_heards below tokens [] (g ∷ gs) hs a b = absurd a
one_heards below tokens (p ∷ ps) [] hs a b = absurd a
one_heards below tokens (p ∷ ps) (g ∷ gs) [] a b = absurd b
one_heards below tokens (p ∷ ps) (g ∷ gs) (h ∷ hs) a b =
    let first = one_heard below (slice_range tokens p.from p.to) g h a.0 b.0 in
    let rest = one_heards below tokens ps gs hs a.1 b.1 in
    (λ i. first i ∷ rest i)

-- ---- lines

some_says : Below → (line : List ℕ) → (s : Said) × Says line s
some_says below line =
    let cut = below.some_cutting line in
    let pieces = below.some_pieces (tokens_of cut.0) in
    let heard = some_heards below (tokens_of cut.0) pieces.0 in
    (record { fault = cut.1; pieces = heard.0 }, (cut.0, pieces.0, cut.2, pieces.1, heard.1))

one_says : Below → (line : List ℕ) (r s : Said) → Says line r → Says line s → r ≡ s
one_says below line r s a b =
    let cut = below.one_cutting line a.0 b.0 r.fault s.fault a.2 b.2 in
    let pieces = below.one_pieces (tokens_of a.0) a.1 b.1 a.3 (subst (λ (ts : List Spanned). Pieces (tokens_of ts) b.1) (sym cut.0) b.3) in
    let heard : HearsAll (tokens_of a.0) a.1 s.pieces =
    subst (λ (ps : List range.Piece). HearsAll (tokens_of a.0) ps s.pieces) (sym pieces) (subst (λ (ts : List Spanned). HearsAll (tokens_of ts) b.1 s.pieces) (sym cut.0) b.4) in
    let same = one_heards below (tokens_of a.0) a.1 r.pieces s.pieces a.4 heard in
    (λ i. record { fault = cut.1 i; pieces = same i })

some_say : Below → (lines : List (List ℕ)) → (said : List Said) × SayAll lines said
some_say below [] = ([], tt)
some_say below (line ∷ lines) =
    let first = some_says below line in
    let rest = some_say below lines in
    (first.0 ∷ rest.0, (first.1, rest.1))

one_say : Below → (lines : List (List ℕ)) (rs ss : List Said) → SayAll lines rs → SayAll lines ss → rs ≡ ss
one_say below [] [] [] a b = refl
one_say below [] [] (s ∷ ss) a b = absurd b
one_say below [] (r ∷ rs) ss a b = absurd a
one_say below (line ∷ lines) [] ss a b = absurd a
one_say below (line ∷ lines) (r ∷ rs) [] a b = absurd b
one_say below (line ∷ lines) (r ∷ rs) (s ∷ ss) a b =
    let first = one_says below line r s a.0 b.0 in
    let rest = one_say below lines rs ss a.1 b.1 in
    (λ i. first i ∷ rest i)

-- ---- units

none_or_some : {A : Type 0} (xs : List A) → (xs ≡ []) ⊎ (xs ≢ [])
none_or_some [] = inl refl
none_or_some (x ∷ xs) = inr (λ e. let never : ⊥ = cc in never)

abbrev NamesSome : Bool → List Said → Type 0
NamesSome prelude said = prelude ≡ false → piece_faults 0 said ≡ [] → forms_of 0 said ≢ []

some_ends : Below → (prelude : Bool) (said : List Said) → NamesSome prelude said → (ending : Ending) × Ends prelude said ending
some_ends below prelude said names =
    ⊎_elim
    (λ (no_lexical : lexical_faults 0 said ≡ []).
    ⊎_elim
    (λ (no_pieces : piece_faults 0 said ≡ []).
    let made = below.some_ending prelude (forms_of 0 said) (λ p. names p no_pieces) in
    (made.0, record { lexical = λ some. absurd (some no_lexical); pieces = λ e some. absurd (some no_pieces); structure = λ d e. made.1 }))
    (λ (some : piece_faults 0 said ≢ []).
    (Faulty (piece_faults 0 said), record { lexical = λ other. absurd (other no_lexical); pieces = λ e other. refl; structure = λ d e. absurd (some e) }))
    (none_or_some (piece_faults 0 said)))
    (λ (some : lexical_faults 0 said ≢ []).
    (Faulty (lexical_faults 0 said), record { lexical = λ other. refl; pieces = λ e other. absurd (some e); structure = λ d e. absurd (some d) }))
    (none_or_some (lexical_faults 0 said))

one_ends : Below → (prelude : Bool) (said : List Said) (d e : Ending) → Ends prelude said d → Ends prelude said e → d ≡ e
one_ends below prelude said d e a b =
    ⊎_elim
    (λ (no_lexical : lexical_faults 0 said ≡ []).
    ⊎_elim
    (λ (no_pieces : piece_faults 0 said ≡ []). below.one_ending prelude (forms_of 0 said) d e (a.structure no_lexical no_pieces) (b.structure no_lexical no_pieces))
    (λ (some : piece_faults 0 said ≢ []). a.pieces no_lexical some ∙ sym (b.pieces no_lexical some))
    (none_or_some (piece_faults 0 said)))
    (λ (some : lexical_faults 0 said ≢ []). a.lexical some ∙ sym (b.lexical some))
    (none_or_some (lexical_faults 0 said))

some_makes : Below → (prelude : Bool) (said : List Said) → NamesSome prelude said → (known : Known) × Makes prelude said known
some_makes below prelude said names =
    let ends = some_ends below prelude said names in (
      record {
        head = if prelude then None else header_of said;
        performers = if prelude then performers_of (uses_of 0 said) else no_performers;
        unknown = if prelude then unknown_of (uses_of 0 said) else [];
        ending = ends.0;
      },
      record { header = refl; performers = refl; unknown = refl; ending = ends.1 },
    )

one_makes : Below → (prelude : Bool) (said : List Said) (j k : Known) → Makes prelude said j → Makes prelude said k → j ≡ k
one_makes below prelude said j k a b =
    let head = a.header ∙ sym b.header in
    let performers = a.performers ∙ sym b.performers in
    let unknown = a.unknown ∙ sym b.unknown in
    let ending = one_ends below prelude said j.ending k.ending a.ending b.ending in
    (λ i. record { head = head i; performers = performers i; unknown = unknown i; ending = ending i })

pub some_read : Below → (lines : List (List ℕ)) (prelude : Bool) → (prelude ≡ false → FirstBegins lines) → (known : Known) × UnitReads lines prelude known
some_read below lines prelude begins =
    let said = some_say below lines in
    let made = some_makes below prelude said.0 (λ p. some_form below.one_cutting lines said.0 (begins p) said.1) in
    (made.0, record { said = said.0; lines_say = said.1; makes = made.1 })

pub one_read : Below → (lines : List (List ℕ)) (prelude : Bool) (j k : Known) → UnitReads lines prelude j → UnitReads lines prelude k → j ≡ k
one_read below lines prelude j k a b =
    let same = one_say below lines a.said b.said a.lines_say b.lines_say in
    one_makes below prelude a.said j k a.makes (subst (λ (ss : List Said). Makes prelude ss k) (sym same) b.makes)
