-- The steps of a cutting.
use Rattle.std.proofs.Common.{◌≡◌, ℕ, ◌+◌, ◌-◌, ◌<◌, ◌≤◌, Bool, true, false, ◌||◌, ⊎_elim, List, [], ◌∷◌, length, take, drop, get_or, Option, Some, None, arith, sym, subst, ◌∙◌, refl}
use Rattle.std.proofs.str.Laws.{order}
use Rattle.std.proofs.lemmas.Grind.{get_or_default_zero}
use Rattle.kumir_tree.specs.declared.token.Spanned.{Spanned}
use Rattle.kumir_lexer.specs.declared.cutting.LexFault.{LexFault}
use Rattle.kumir_tree.specs.declared.token.Token.{Token}
use Rattle.kumir_lexer.specs.declared.cutting.Class.{Class}
use Rattle.kumir_lexer.specs.declared.cutting.Reading.{Reading}
use Rattle.kumir_lexer.specs.declared.cutting.Reading.TheVariants as reading
use Rattle.std.proofs.lemmas.List.{length-drop}
use Rattle.kumir_lexer.specs.Classes.{is_blank, begins_comment, Longest}
use Rattle.kumir_lexer.specs.Steps.{IsReading}
use Rattle.kumir_lexer.proofs.Longest.{stands_some}
use Rattle.kumir_lexer.specs.Cutting.{OnlyBlanks, Reaches, IsOver, IsToken, IsFaulty, Spells, is_name, Cuts}

no_blanks : (line : List ℕ) (at : ℕ) → OnlyBlanks line at at
no_blanks line at k le lt = absurd (omega arith)

more_blanks : (line : List ℕ) (at to : ℕ) → is_blank (get_or line at 0) ≡ true → OnlyBlanks line (at + 1) to → OnlyBlanks line at to
more_blanks line at to b h k le lt =
    ⊎_elim (λ (lt2 : at < k). h k (omega arith) lt) (λ (le2 : k ≤ at). let e : at ≡ k = omega arith in subst (λ j. is_blank (get_or line j 0) ≡ true) e b) (order at k)

reach_further : (line : List ℕ) (at to : ℕ) → is_blank (get_or line at 0) ≡ true → Reaches line (at + 1) to → Reaches line at to
reach_further line at to b r = record { behind = omega (arith, r.behind); within = r.within; blanks = more_blanks line at to b r.blanks; begins = r.begins }

over_further : (line : List ℕ) (at : ℕ) → is_blank (get_or line at 0) ≡ true → IsOver line (at + 1) → IsOver line at
over_further line at b r = record { to = r.to; behind = omega (arith, r.behind); within = r.within; blanks = more_blanks line at r.to b r.blanks; ends = r.ends }

cut_blank : (is_after_name : Bool) (at : ℕ) (line : List ℕ) (ts : List Spanned) (fault : Option LexFault) → is_blank (get_or line at 0) ≡ true → Cuts is_after_name (at + 1) line ts fault → Cuts is_after_name at line ts fault
cut_blank is_after_name at line [] None b h = over_further line at b h
cut_blank is_after_name at line [] (Some fault) b h = (reach_further line at fault.place b h.0, h.1)
cut_blank is_after_name at line (t ∷ ts) fault b h = (reach_further line at t.from b h.0, h.1, h.2)

-- a character as the code reads it
abbrev pub IsAt : List ℕ → ℕ → ℕ → Type 0
IsAt line at x = (at < length line) × (x ≡ get_or line at x)

is_at : (line : List ℕ) (at x : ℕ) → IsAt line at x → x ≡ get_or line at 0
is_at line at x h = h.1 ∙ get_or_default_zero line at x h.0

-- a blank may stand before what is cut
pub cut_blank_at : (is_after_name : Bool) (at x : ℕ) (line : List ℕ) (ts : List Spanned) (fault : Option LexFault) → IsAt line at x → is_blank x ≡ true → Cuts is_after_name (at + 1) line ts fault → Cuts is_after_name at line ts fault
cut_blank_at is_after_name at x line ts fault h b cut = cut_blank is_after_name at line ts fault (subst (λ y. is_blank y ≡ true) (is_at line at x h) b) cut

reach_here : (at x : ℕ) (line : List ℕ) → IsAt line at x → is_blank x ≡ false → begins_comment x ≡ false → Reaches line at at
reach_here at x line h b k =
    let either : (is_blank x || begins_comment x) ≡ false = rw (b, k) refl in
    record { behind = omega arith; within = h.0; blanks = no_blanks line at; begins = subst (λ y. (is_blank y || begins_comment y) ≡ false) (is_at line at x h) either }

pub over_comment : (at x : ℕ) (line : List ℕ) → IsAt line at x → begins_comment x ≡ true → IsOver line at
over_comment at x line h k = record { to = at; behind = omega arith; within = omega (arith, h.0); blanks = no_blanks line at; ends = λ lt. subst (λ y. begins_comment y ≡ true) (is_at line at x h) k }

pub over_end : (at : ℕ) (line : List ℕ) → at ≤ length line → length line ≤ at → IsOver line at
over_end at line le ge = record { to = at; behind = omega arith; within = le; blanks = no_blanks line at; ends = λ lt. absurd (omega arith) }

-- a token that stands here
pub cut_token : (is_after_name : Bool) (at x : ℕ) (line : List ℕ) (t : Spanned) (ts : List Spanned) (fault : Option LexFault) → IsAt line at x → is_blank x ≡ false → begins_comment x ≡ false → t.from ≡ at → IsToken is_after_name line t → Cuts (is_name t.token) t.to line ts fault → Cuts is_after_name at line (t ∷ ts) fault
cut_token is_after_name at x line t ts fault h b k e token cut = (subst (λ p. Reaches line at p) (sym e) (reach_here at x line h b k), token, cut)

-- a fault that stands here
pub cut_fault : (is_after_name : Bool) (at x : ℕ) (line : List ℕ) (fault : LexFault) → IsAt line at x → is_blank x ≡ false → begins_comment x ≡ false → fault.place ≡ at → IsFaulty is_after_name (drop at line) fault.code → Cuts is_after_name at line [] (Some fault)
cut_fault is_after_name at x line fault h b k e f = (subst (λ p. Reaches line at p) (sym e) (reach_here at x line h b k), subst (λ p. IsFaulty is_after_name (drop p line) fault.code) (sym e) f)

-- a token of this length stands here
pub token_here : (is_after_name : Bool) (line rest : List ℕ) (at len : ℕ) (class : Class) (found : Reading) (token : Token) → at < length line → rest ≡ drop at line → Longest is_after_name class rest len → IsReading class (take len rest) found → found ≡ reading.Token token →
    (at ≡ at) × (at < at + len) × (at + len ≤ length line) × IsToken is_after_name line (record { token = token; from = at; to = at + len })
token_here is_after_name line rest at len class found token lt e long says is =
    let long' : Longest is_after_name class (drop at line) len = subst (λ r. Longest is_after_name class r len) e long in
    let some : 1 ≤ len = stands_some is_after_name class (drop at line) len long'.stands in
    let size : len ≡ at + len - at = omega arith in
    let says' : IsReading class (take len (drop at line)) (reading.Token token) = subst (λ r. IsReading class (take len r) (reading.Token token)) e (subst (IsReading class (take len rest)) is says) in (
      refl,
      omega arith,
      omega (arith, long'.stands.0, length-drop at line),
      record {
        class = class;
        ordered = omega arith;
        longest = subst (Longest is_after_name class (drop at line)) size long';
        spells = subst (λ k. Spells class (take k (drop at line)) token) size says';
      },
    )
