-- What lines say, one more at a time.
use Rattle.std.proofs.Common.{zero, suc, ◌≡◌, ◌≢◌, ℕ, ◌+◌, ◌-◌, ◌<◌, ◌≤◌, List, [], ◌∷◌, ◌++◌, length, get_or, take, drop, map, slice_range, sym, ◌∙◌, subst, arith, ap}
use Rattle.std.proofs.Common.{Option}
use Rattle.std.proofs.lemmas.List.{length-map, take-map, drop-map, take_more, map-append, length-take, length-drop}
use Rattle.kumir_tree.specs.declared.token.Token.{Token}
use Rattle.kumir_tree.specs.declared.token.Spanned.{Spanned}
use Rattle.expr_forms.specs.Tokens.{tokens_of}
use Rattle.kumir_lexer.specs.declared.cutting.LexFault.{LexFault}
use Rattle.kumir_lexer.specs.Cutting.{Cut}
use Rattle.algo_parser.specs.declared.heard.Heard as code
use Rattle.algo_parser.specs.declared.heard.Said as code_said
use Rattle.algo_parser.specs.Hearing.{heard_of, said_of}
use Rattle.line_pieces.specs.Ends.{IsPiece, ArePieces, Pieces}
use Rattle.line_pieces.specs.declared.pieces.Piece.{Piece}
use Rattle.algo_parser.specs.Units.{Heard, Hears, HearsAll, Said, Says, SayAll}

pub piece_inside : (tokens : List Token) (at : ℕ) (ps : List Piece) (k : ℕ) (d : Piece) → ArePieces tokens at ps → k < length ps → IsPiece tokens (get_or ps k d)
piece_inside tokens at [] k d a h = absurd (omega arith)
piece_inside tokens at (p ∷ ps) zero d a h = a.1
piece_inside tokens at (p ∷ ps) (suc k) d a h = piece_inside tokens p.to ps k d a.2 (omega arith)

pub hears_push : (tokens : List Token) (ps : List Piece) (hs : List Heard) (p : Piece) (h : Heard) → HearsAll tokens ps hs → Hears (slice_range tokens p.from p.to) h → HearsAll tokens (ps ++ p ∷ []) (hs ++ h ∷ [])
hears_push tokens [] [] p h all one = (one, tt)
hears_push tokens (q ∷ ps) (g ∷ hs) p h all one = (all.0, hears_push tokens ps hs p h all.1 one)
hears_push tokens [] (g ∷ hs) p h all one = absurd all
hears_push tokens (q ∷ ps) [] p h all one = absurd all

pub say_push : (lines : List (List ℕ)) (ss : List Said) (line : List ℕ) (s : Said) → SayAll lines ss → Says line s → SayAll (lines ++ line ∷ []) (ss ++ s ∷ [])
say_push [] [] line s all one = (one, tt)
say_push (l ∷ lines) (t ∷ ss) line s all one = (all.0, say_push lines ss line s all.1 one)
say_push [] (t ∷ ss) line s all one = absurd all
say_push (l ∷ lines) [] line s all one = absurd all

pub tokens_range : (xs : List Spanned) (a b : ℕ) → tokens_of (slice_range xs a b) ≡ slice_range (tokens_of xs) a b
tokens_range xs a b = sym (ap (take (b - a)) (drop-map (λ t. t.token) a xs) ∙ take-map (λ t. t.token) (b - a) (drop a xs))

pub inside_get : (ts : List Spanned) (ps : List Piece) (i : ℕ) (e : Piece) → Pieces (tokens_of ts) ps → i < length ps → IsPiece (tokens_of ts) (get_or ps i e)
inside_get ts ps i e a h = piece_inside (tokens_of ts) 0 ps i e a h

pub within_get : (ts : List Spanned) (ps : List Piece) (i : ℕ) (e : Piece) → Pieces (tokens_of ts) ps → i < length ps → (get_or ps i e).to ≤ length ts
within_get ts ps i e a h = let p = inside_get ts ps i e a h in omega (arith, p.within, length-map ts (λ (t : Spanned). t.token))

pub some_slice : (ts : List Spanned) (from to : ℕ) → from < to → to ≤ length ts → take (to - from) (drop from ts) ≢ []
some_slice ts from to h k e =
    let none : length (take (to - from) (drop from ts)) ≡ 0 = ap length e in
    absurd (omega (arith, none, length-take (to - from) (drop from ts), length-drop from ts, h, k))

pub hears_get : (ts : List Spanned) (ps : List Piece) (i : ℕ) (e : Piece) (hs new : List code.Heard) (h : code.Heard)
    → i < length ps → HearsAll (tokens_of ts) (take i ps) (map heard_of hs) → Hears (slice_range (tokens_of ts) (get_or ps i e).from (get_or ps i e).to) (heard_of h) → new ≡ hs ++ h ∷ []
    → HearsAll (tokens_of ts) (take (i + 1) ps) (map heard_of new)
hears_get ts ps i e hs new h less all one more =
    subst (λ l. HearsAll (tokens_of ts) (take (i + 1) ps) l) (sym (ap (map heard_of) more ∙ map-append heard_of hs (h ∷ [])))
    (subst (λ l. HearsAll (tokens_of ts) l (map heard_of hs ++ heard_of h ∷ [])) (sym (take_more ps i e less)) (hears_push (tokens_of ts) (take i ps) (map heard_of hs) (get_or ps i e) (heard_of h) all one))

pub shown_pieces : (ts us : List Spanned) (ps qs : List Piece) → us ≡ ts → qs ≡ ps → Pieces (tokens_of ts) ps → Pieces (tokens_of us) qs
shown_pieces ts us ps qs e f a = subst (λ l. Pieces (tokens_of l) qs) (sym e) (subst (λ l. Pieces (tokens_of ts) l) (sym f) a)

pub says_line : (line text : List ℕ) (ts us : List Spanned) (fault : Option LexFault) (ps qs : List Piece) (hs : List Heard)
    → text ≡ line → us ≡ ts → qs ≡ ps → Cut text ts fault → Pieces (tokens_of ts) ps → HearsAll (tokens_of us) qs hs → Says line (record { fault = fault; pieces = hs })
says_line line text ts us fault ps qs hs same e f cut are hear =
    (ts, ps, subst (λ l. Cut l ts fault) same cut, are, subst (λ l. HearsAll (tokens_of l) ps hs) e (subst (λ l. HearsAll (tokens_of us) l hs) f hear))

pub says_next : (lines : List (List ℕ)) (i : ℕ) (d : List ℕ) (ss new : List code_said.Said) (s : code_said.Said)
    → i < length lines → d ≡ get_or lines i d → SayAll (take i lines) (map said_of ss) → Says d (said_of s) → new ≡ ss ++ s ∷ [] → SayAll (take (i + 1) lines) (map said_of new)
says_next lines i d ss new s less is all one more =
    subst (λ l. SayAll (take (i + 1) lines) l) (sym (ap (map said_of) more ∙ map-append said_of ss (s ∷ [])))
    (subst (λ l. SayAll l (map said_of ss ++ said_of s ∷ [])) (ap (λ x. take i lines ++ x ∷ []) is ∙ sym (take_more lines i d less)) (say_push (take i lines) (map said_of ss) d (said_of s) all one))
