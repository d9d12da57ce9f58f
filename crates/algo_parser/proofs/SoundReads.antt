-- What is read from the lines of a unit is sound.
use Rattle.std.proofs.Common.{◌≡◌, ◌≢◌, ℕ, ◌+◌, ◌<◌, ◌≤◌, Bool, true, false, List, [], ◌∷◌, ◌++◌, length, Option, Some, None, sym, subst, refl, arith, ap, ◌⊎◌, inl, inr, ⊎_elim}
use Rattle.std.specs.List.{AllByRecursion, flat_map}
use Rattle.km_base.specs.declared.performers.Performer.{Performer}
use Rattle.performer_kit.specs.Commands.{performer_named}
use Rattle.kumir_tree.specs.declared.unit.Fault.{Fault}
use Rattle.kumir_tree.specs.declared.token.Token.{Token}
use Rattle.kumir_tree.specs.Part.{Head}
use Rattle.kumir_tree.specs.Piece as form
use Rattle.kumir_tree.specs.Piece.{Piece}
use Rattle.kumir_tree.specs.Sound.{HasDimensions, SomeHead, FaultsHold, EndingHolds, EndsPrelude, EndsUnit}
use Rattle.kumir_tree.specs.Unit.{Algorithm, Ending, Grown, Prelude, Faulty, Known}
use Rattle.kumir_lexer.specs.declared.cutting.LexFault.{LexFault}
use Rattle.line_pieces.specs.declared.pieces.Piece as range
use Rattle.unit_grammar.specs.Grammar.{Placed, IsUnit, unit}
use Rattle.unit_grammar.specs.Structure.{HasFault, misplaced, too_deep, not_closed, HasOther, other, UnitEnds, PreludeEnds}
use Rattle.algo_parser.specs.Units.{Heard, Understood, NotUnderstood, TooDeep, HearsAll, Said, SayAll, lexical_at, lexical_faults, piece_fault, piece_faults, form_at, forms_of, header_in, header_of, use_in, uses_on, uses_of, unknown_at, unknown_of, Ends, UnitReads, IsSoundRead}
use Rattle.line_pieces.specs.Spans.{FirstBegins}
use Rattle.line_pieces.proofs.Firsts.{OneCutting}
use Rattle.algo_parser.proofs.FirstForms.{says_some}
use Rattle.algo_parser.proofs.Sounds.{FormHolds, form_holds, AllHold, parts, unit_holds}

all_append : {A : Type 0} (P : A → Type 0) (xs ys : List A) → AllByRecursion P xs → AllByRecursion P ys → AllByRecursion P (xs ++ ys)
all_append P [] ys a b = b
all_append P (x ∷ xs) ys a b = (a.0, all_append P xs ys a.1 b)

abbrev below : ℕ → ℕ → Type 0
below n line = line < n

lexical_one : (m n : ℕ) (o : Option LexFault) → m < n → FaultsHold (below n) (lexical_at m o)
lexical_one m n None h = tt
lexical_one m n (Some f) h = (h, tt)

lexical_hold : (m n : ℕ) (ss : List Said) → m + length ss ≤ n → FaultsHold (below n) (lexical_faults m ss)
lexical_hold m n [] h = tt
lexical_hold m n (s ∷ ss) h = all_append (λ f. below n f.line) (lexical_at m s.fault) (lexical_faults (m + 1) ss) (lexical_one m n s.fault (omega arith)) (lexical_hold (m + 1) n ss (omega arith))

piece_one : (m n : ℕ) (h : Heard) → m < n → FaultsHold (below n) (piece_fault m h)
piece_one m n (Understood f) h = tt
piece_one m n NotUnderstood h = (h, tt)
piece_one m n TooDeep h = (h, tt)

pieces_one : (m n : ℕ) (hs : List Heard) → m < n → FaultsHold (below n) (flat_map (piece_fault m) hs)
pieces_one m n [] h = tt
pieces_one m n (x ∷ hs) h = all_append (λ f. below n f.line) (piece_fault m x) (flat_map (piece_fault m) hs) (piece_one m n x h) (pieces_one m n hs h)

pieces_hold : (m n : ℕ) (ss : List Said) → m + length ss ≤ n → FaultsHold (below n) (piece_faults m ss)
pieces_hold m n [] h = tt
pieces_hold m n (s ∷ ss) h = all_append (λ f. below n f.line) (flat_map (piece_fault m) s.pieces) (piece_faults (m + 1) ss) (pieces_one m n s.pieces (omega arith)) (pieces_hold (m + 1) n ss (omega arith))

abbrev Uses : ℕ → List (ℕ × List ℕ) → Type 0
Uses n us = AllByRecursion (λ (u : ℕ × List ℕ). u.0 < n) us

use_one : (m n : ℕ) (h : Heard) → m < n → Uses n (use_in m h)
use_one m n (Understood (form.Uses x)) h = (h, tt)
use_one m n (Understood f) h = tt
use_one m n NotUnderstood h = tt
use_one m n TooDeep h = tt

uses_one : (m n : ℕ) (hs : List Heard) → m < n → Uses n (flat_map (use_in m) hs)
uses_one m n [] h = tt
uses_one m n (x ∷ hs) h = all_append (λ (u : ℕ × List ℕ). u.0 < n) (use_in m x) (flat_map (use_in m) hs) (use_one m n x h) (uses_one m n hs h)

uses_line : (m n : ℕ) (o : Option LexFault) (hs : List Heard) → m < n → Uses n (uses_on m o hs)
uses_line m n None hs h = uses_one m n hs h
uses_line m n (Some f) hs h = tt

uses_hold : (m n : ℕ) (ss : List Said) → m + length ss ≤ n → Uses n (uses_of m ss)
uses_hold m n [] h = tt
uses_hold m n (s ∷ ss) h = all_append (λ (u : ℕ × List ℕ). u.0 < n) (uses_on m s.fault s.pieces) (uses_of (m + 1) ss) (uses_line m n s.fault s.pieces (omega arith)) (uses_hold (m + 1) n ss (omega arith))

unknown_one : (line n : ℕ) (o : Option Performer) → line < n → FaultsHold (below n) (unknown_at line o)
unknown_one line n None h = (h, tt)
unknown_one line n (Some p) h = tt

unknown_hold : (n : ℕ) (us : List (ℕ × List ℕ)) → Uses n us → FaultsHold (below n) (unknown_of us)
unknown_hold n [] h = tt
unknown_hold n (u ∷ us) h = all_append (λ f. below n f.line) (unknown_at u.0 (performer_named u.1)) (unknown_of us) (unknown_one u.0 n (performer_named u.1) h.0) (unknown_hold n us h.1)

forms_one : (m n : ℕ) (tokens : List Token) (ps : List range.Piece) (hs : List Heard) → m < n → HearsAll tokens ps hs → AllHold (below n) (flat_map (form_at m) hs)
forms_one m n tokens [] [] h a = tt
forms_one m n tokens [] (x ∷ hs) h a = absurd a
forms_one m n tokens (p ∷ ps) [] h a = tt
forms_one m n tokens (p ∷ ps) (Understood f ∷ hs) h a = ((h, form_holds a.0.1), forms_one m n tokens ps hs h a.1)
forms_one m n tokens (p ∷ ps) (NotUnderstood ∷ hs) h a = forms_one m n tokens ps hs h a.1
forms_one m n tokens (p ∷ ps) (TooDeep ∷ hs) h a = forms_one m n tokens ps hs h a.1

forms_hold : (m n : ℕ) (lines : List (List ℕ)) (ss : List Said) → m + length ss ≤ n → SayAll lines ss → AllHold (below n) (forms_of m ss)
forms_hold m n [] [] h a = tt
forms_hold m n [] (s ∷ ss) h a = absurd a
forms_hold m n (l ∷ lines) [] h a = tt
forms_hold m n (l ∷ lines) (s ∷ ss) h a =
    all_append (λ (f : Placed). (f.0 < n) × FormHolds f.1) (flat_map (form_at m) s.pieces) (forms_of (m + 1) ss) (forms_one m n _ a.0.1 s.pieces (omega arith) a.0.4) (forms_hold (m + 1) n lines ss (omega arith) a.1)

as_many : (lines : List (List ℕ)) (ss : List Said) → SayAll lines ss → length ss ≡ length lines
as_many [] [] a = refl
as_many [] (s ∷ ss) a = absurd a
as_many (l ∷ lines) [] a = absurd a
as_many (l ∷ lines) (s ∷ ss) a = omega (arith, as_many lines ss a.1)

fault_holds : (n : ℕ) (fs : List Placed) (fault : Fault) → HasFault fs fault → AllHold (below n) fs → fault.line < n
fault_holds n fs fault (misplaced before behind line f x y) a = (parts (below n) before ((line, f) ∷ behind) a).1.0.0
fault_holds n fs fault (too_deep before behind line f stage x y z) a = (parts (below n) before ((line, f) ∷ behind) a).1.0.0
fault_holds n fs fault (not_closed before line f x y) a = (parts (below n) before ((line, f) ∷ []) a).1.0.0

other_holds : (n : ℕ) (fs : List Placed) (fault : Fault) → HasOther fs fault → AllHold (below n) fs → fault.line < n
other_holds n fs fault (other before behind line f x y) a = (parts (below n) before ((line, f) ∷ behind) a).1.0.0

-- ---- the header

head_one : (n : ℕ) (tokens : List Token) (ps : List range.Piece) (o : Option LexFault) (hs : List Heard) → 0 < n → HearsAll tokens ps hs → SomeHead (below n) HasDimensions (header_in o hs)
head_one n tokens (p ∷ ps) None (Understood (form.Header h) ∷ hs) some a = let k : FormHolds (form.Header h) = form_holds a.0.1 in (subst (below n) (sym k.1) some, k.0)
head_one n tokens [] None (Understood (form.Header h) ∷ hs) some a = absurd a
head_one n tokens ps o hs some a = tt

head_holds : (n : ℕ) (lines : List (List ℕ)) (ss : List Said) → 0 < n → SayAll lines ss → SomeHead (below n) HasDimensions (header_of ss)
head_holds n lines [] some a = tt
head_holds n [] (s ∷ ss) some a = absurd a
head_holds n (l ∷ lines) (s ∷ ss) some a = head_one n _ a.0.1 s.fault s.pieces some a.0.4

abbrev first_piece : Piece → List Placed → Piece
first_piece f [] = f
first_piece f (g ∷ fs) = g.1

unit_begins : (fs : List Placed) (a : Algorithm) (line : ℕ) (f : Piece) (rest : List Placed) → IsUnit fs a → fs ≡ (line, f) ∷ rest → f ≡ form.Header a.head
unit_begins fs a line f rest (unit m begin end h p q s) e = sym (ap (first_piece f) e)

header_same : (o : Option LexFault) (hs : List Heard) (more others : List Fault) (rest : List Placed) (a : Algorithm)
    → lexical_at 0 o ++ more ≡ [] → flat_map (piece_fault 0) hs ++ others ≡ [] → hs ≢ [] → IsUnit (flat_map (form_at 0) hs ++ rest) a → header_in o hs ≡ Some a.head
header_same (Some f) hs more others rest a l p some u = absurd (let none : ⊥ = cc in none)
header_same None [] more others rest a l p some u = absurd (some refl)
header_same None (NotUnderstood ∷ hs) more others rest a l p some u = absurd (let none : ⊥ = cc in none)
header_same None (TooDeep ∷ hs) more others rest a l p some u = absurd (let none : ⊥ = cc in none)
header_same None (Understood f ∷ hs) more others rest a l p some u =
    subst (λ g. header_in None (Understood g ∷ hs) ≡ Some a.head) (sym (unit_begins ((0, f) ∷ (flat_map (form_at 0) hs ++ rest)) a 0 f (flat_map (form_at 0) hs ++ rest) u refl)) refl

header_is : OneCutting → (lines : List (List ℕ)) (ss : List Said) (a : Algorithm) → FirstBegins lines → SayAll lines ss → lexical_faults 0 ss ≡ [] → piece_faults 0 ss ≡ [] → IsUnit (forms_of 0 ss) a → header_of ss ≡ Some a.head
header_is only [] ss a b s l p u = absurd b
header_is only (x ∷ lines) [] a b s l p u = absurd s
header_is only (x ∷ lines) (y ∷ ss) a b s l p u = header_same y.fault y.pieces (lexical_faults 1 ss) (piece_faults 1 ss) (forms_of 1 ss) a l p (says_some only x y b s.0) u

-- ---- whole units

list_cases : {A : Type 0} (xs : List A) → (xs ≡ []) ⊎ (xs ≢ [])
list_cases [] = inl refl
list_cases (x ∷ xs) = inr (λ e. let none : ⊥ = cc in none)

one_some : (faults : List Fault) (f : Fault) → faults ≡ f ∷ [] → faults ≢ []
one_some faults f e n = let none : ⊥ = cc in none

prelude_structure : (n : ℕ) (fs : List Placed) (ending : Ending) → AllHold (below n) fs → PreludeEnds fs ending → EndsPrelude ending × EndingHolds (below n) HasDimensions ending
prelude_structure n fs (Grown a) h e = absurd e
prelude_structure n fs Prelude h e = (tt, tt)
prelude_structure n fs (Faulty faults) h e = (one_some faults e.0 e.1, subst (FaultsHold (below n)) (sym e.1) (other_holds n fs e.0 e.2 h, tt))

abbrev EndsSo : ℕ → Option Head → Ending → Type 0
EndsSo n head ending = EndsUnit head ending × EndingHolds (below n) HasDimensions ending

unit_structure : (n : ℕ) (head : Option Head) (fs : List Placed) (ending : Ending) → 0 < n → AllHold (below n) fs → ((a : Algorithm) → IsUnit fs a → head ≡ Some a.head) → UnitEnds fs ending → EndsSo n head ending
unit_structure n head fs (Grown a) some h same e = (same a e.1, unit_holds (below n) some e.1 h)
unit_structure n head fs Prelude some h same e = absurd e
unit_structure n head fs (Faulty faults) some h same e = (one_some faults e.0 e.1, subst (FaultsHold (below n)) (sym e.1) (fault_holds n fs e.0 e.2 h, tt))

prelude_ends : (n : ℕ) (lines : List (List ℕ)) (ss : List Said) (ending : Ending) → length ss ≤ n → SayAll lines ss → Ends true ss ending → EndsPrelude ending × EndingHolds (below n) HasDimensions ending
prelude_ends n lines ss ending h a e =
    ⊎_elim
    (λ (l : lexical_faults 0 ss ≡ []).
    ⊎_elim
    (λ (p : piece_faults 0 ss ≡ []). prelude_structure n (forms_of 0 ss) ending (forms_hold 0 n lines ss (omega arith) a) (e.structure l p))
    (λ (p : piece_faults 0 ss ≢ []). subst (λ x. EndsPrelude x × EndingHolds (below n) HasDimensions x) (sym (e.pieces l p)) (p, pieces_hold 0 n ss (omega arith)))
    (list_cases (piece_faults 0 ss)))
    (λ (l : lexical_faults 0 ss ≢ []). subst (λ x. EndsPrelude x × EndingHolds (below n) HasDimensions x) (sym (e.lexical l)) (l, lexical_hold 0 n ss (omega arith)))
    (list_cases (lexical_faults 0 ss))

unit_ends : OneCutting → (n : ℕ) (lines : List (List ℕ)) (ss : List Said) (ending : Ending) → FirstBegins lines → 0 < n → length ss ≤ n → SayAll lines ss → Ends false ss ending → EndsSo n (header_of ss) ending
unit_ends only n lines ss ending b some h a e =
    ⊎_elim
    (λ (l : lexical_faults 0 ss ≡ []).
    ⊎_elim
    (λ (p : piece_faults 0 ss ≡ []). unit_structure n (header_of ss) (forms_of 0 ss) ending some (forms_hold 0 n lines ss (omega arith) a) (λ x u. header_is only lines ss x b a l p u) (e.structure l p))
    (λ (p : piece_faults 0 ss ≢ []). subst (EndsSo n (header_of ss)) (sym (e.pieces l p)) (p, pieces_hold 0 n ss (omega arith)))
    (list_cases (piece_faults 0 ss)))
    (λ (l : lexical_faults 0 ss ≢ []). subst (EndsSo n (header_of ss)) (sym (e.lexical l)) (l, lexical_hold 0 n ss (omega arith)))
    (list_cases (lexical_faults 0 ss))

first_line : (lines : List (List ℕ)) → FirstBegins lines → 0 < length lines
first_line [] b = absurd b
first_line (l ∷ lines) b = omega arith

-- what is read of a prelude or of a unit is sound
pub reads_sound : OneCutting → (lines : List (List ℕ)) (prelude : Bool) (k : Known) → (prelude ≡ false → FirstBegins lines) → UnitReads lines prelude k → IsSoundRead (length lines) prelude k
reads_sound only lines true k b r =
    let n = length lines in
    let few : length r.said ≤ n = omega (arith, as_many lines r.said r.lines_say) in
    let e = prelude_ends n lines r.said k.ending few r.lines_say r.makes.ending in
    ((r.makes.header, e.0), (subst (SomeHead (below n) HasDimensions) (sym r.makes.header) tt, subst (FaultsHold (below n)) (sym r.makes.unknown) (unknown_hold n (uses_of 0 r.said) (uses_hold 0 n r.said (omega arith))), e.1))
reads_sound only lines false k b r =
    let n = length lines in
    let some : 0 < n = first_line lines (b refl) in
    let few : length r.said ≤ n = omega (arith, as_many lines r.said r.lines_say) in
    let e = unit_ends only n lines r.said k.ending (b refl) some few r.lines_say r.makes.ending in (
      (subst (λ h. EndsUnit h k.ending) (sym r.makes.header) e.0, r.makes.performers, r.makes.unknown),
      (subst (SomeHead (below n) HasDimensions) (sym r.makes.header) (head_holds n lines r.said some r.lines_say), subst (FaultsHold (below n)) (sym r.makes.unknown) tt, e.1),
    )
