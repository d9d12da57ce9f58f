-- A unit whose pieces are all understood has a form.
use Rattle.std.proofs.Common.{◌≡◌, ◌≢◌, ℕ, ◌+◌, true, List, [], ◌∷◌, ◌++◌, subst, refl, arith}
use Rattle.std.specs.List.{flat_map}
use Rattle.kumir_tree.specs.declared.token.Token.{Token}
use Rattle.kumir_tree.specs.declared.token.Token.TheVariants as token
use Rattle.kumir_tree.specs.declared.token.Key.TheVariants as key
use Rattle.kumir_tree.specs.declared.token.Spanned.{Spanned}
use Rattle.expr_forms.specs.Tokens.{tokens_of}
use Rattle.line_pieces.specs.declared.pieces.Piece.{Piece}
use Rattle.line_pieces.specs.Ends.{is_semicolon, Pieces}
use Rattle.line_pieces.specs.Spans.{IsAlgorithmWord, BeginsUnit, FirstBegins}
use Rattle.algo_parser.specs.Units.{Heard, Understood, NotUnderstood, TooDeep, HearsAll, Said, Says, SayAll, piece_fault, piece_faults, form_at, forms_of}
use Rattle.line_pieces.proofs.Firsts.{OneCutting}

no_semicolon : (t : Token) → t ≡ token.Key key.Algorithm → is_semicolon t ≡ true → ⊥
no_semicolon t e s = let h : is_semicolon (token.Key key.Algorithm) ≡ true = subst (λ u. is_semicolon u ≡ true) e s in let none : ⊥ = cc in none

some_piece : (ts : List Spanned) (ps : List Piece) → IsAlgorithmWord ts → Pieces (tokens_of ts) ps → ps ≢ []
some_piece [] ps w a e = w
some_piece (t ∷ ts) [] w a e = no_semicolon t.token w (a.1 0 (omega arith) (omega arith))
some_piece (t ∷ ts) (p ∷ ps) w a e = let none : ⊥ = cc in none

some_heard : (tokens : List Token) (ps : List Piece) (hs : List Heard) → ps ≢ [] → HearsAll tokens ps hs → hs ≢ []
some_heard tokens [] hs some a e = some refl
some_heard tokens (p ∷ ps) [] some a e = a
some_heard tokens (p ∷ ps) (h ∷ hs) some a e = let none : ⊥ = cc in none

pub says_some : OneCutting → (line : List ℕ) (s : Said) → BeginsUnit line → Says line s → s.pieces ≢ []
unfolding BeginsUnit
says_some only line s b h = some_heard (tokens_of h.0) h.1 s.pieces (some_piece h.0 h.1 (subst IsAlgorithmWord (only line b.0 h.0 b.1 s.fault b.2 h.2).0 b.3) h.3) h.4

some_of_pieces : (hs : List Heard) (rest : List Said) (n : ℕ) → hs ≢ [] → flat_map (piece_fault n) hs ++ piece_faults (n + 1) rest ≡ [] → flat_map (form_at n) hs ++ forms_of (n + 1) rest ≢ []
some_of_pieces [] rest n some none e = some refl
some_of_pieces (Understood f ∷ hs) rest n some none e = let bad : ⊥ = cc in bad
some_of_pieces (NotUnderstood ∷ hs) rest n some none e = let bad : ⊥ = cc in bad
some_of_pieces (TooDeep ∷ hs) rest n some none e = let bad : ⊥ = cc in bad

pub some_form : OneCutting → (lines : List (List ℕ)) (ss : List Said) → FirstBegins lines → SayAll lines ss → piece_faults 0 ss ≡ [] → forms_of 0 ss ≢ []
some_form only [] ss b a none = absurd b
some_form only (l ∷ lines) [] b a none = absurd a
some_form only (l ∷ lines) (s ∷ ss) b a none = some_of_pieces s.pieces ss 0 (says_some only l s b a.0) none
