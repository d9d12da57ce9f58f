-- Each line has a cutting.
use Rattle.std.proofs.Common.{◌≡◌, ℕ, zero, suc, ◌+◌, ◌-◌, ◌<◌, ◌≤◌, Bool, true, false, cond, ◌==◌, ◌⊎◌, inl, inr, ⊎_elim, List, [], ◌∷◌, length, take, drop, get_or, Option, Some, None, arith, sym, refl}
use Rattle.std.specs.Prelude.{is_some, pos}
use Rattle.std.proofs.str.Laws.{order}
use Rattle.std.specs.List.{prefix_len}
use Rattle.std.proofs.lemmas.List.{length-drop}
use Rattle.kumir_tree.specs.declared.token.Token.{Token}
use Rattle.kumir_tree.specs.declared.token.Token.TheVariants as token
use Rattle.kumir_tree.specs.declared.token.Spanned.{Spanned}
use Rattle.kumir_tree.specs.declared.fault_codes.TheConstants.{NUMBER_TOO_LARGE, REAL}
use Rattle.kumir_lexer.specs.declared.cutting.Class.{Class}
use Rattle.kumir_lexer.specs.declared.cutting.Class.TheVariants.{Word, Number, Real, Literal, Sign}
use Rattle.kumir_lexer.specs.declared.cutting.LexFault.{LexFault}
use Rattle.kumir_lexer.specs.declared.cutting.Reading.TheVariants as reading
use Rattle.kumir_lexer.specs.Spelling.{key_of, sign_of}
use Rattle.kumir_lexer.specs.Classes.{is_blank, begins_comment, is_digit, is_quote, marks_exponent, begins, value, HasShape, Longest, NoneStands}
use Rattle.kumir_lexer.specs.Prefixes.{with_digits, sign_width, exponent_len, fraction_len, scale_len, real_len, literal_len, sign_len}
use Rattle.kumir_lexer.specs.Cutting.{names_reals, Spells, IsRefused, bad_code, is_name, Cuts, Cut}
use Rattle.kumir_lexer.specs.Joined.{joined}
use Rattle.std.proofs.lemmas.Grind.{get_or_default_zero}
use Rattle.kumir_lexer.proofs.Digits.{prefix_fits}
use Rattle.kumir_lexer.proofs.Longest.{longest_word_at, longest_number_at, longest_real_at, longest_literal_at, longest_sign_at, no_literal_at, no_sign_at}
use Rattle.kumir_lexer.proofs.Steps.{cut_blank_at, over_comment, over_end, cut_token, cut_fault, token_here}

-- ---- no prefix is longer than its text

with_fits : (a d : ℕ) → with_digits a d ≤ a + d
with_fits a d = elim (d == 0) as (λ b. cond b 0 (a + d) ≤ a + d) [ true ↦ omega arith | false ↦ omega arith ]

sign_fits : (cs : List ℕ) → sign_width cs ≤ length cs
sign_fits [] = omega arith
sign_fits (c ∷ cs) = grind arith

exponent_fits : (text : List ℕ) → exponent_len text ≤ length text
exponent_fits [] = omega arith
exponent_fits (c ∷ cs) =
    let n = with_fits (1 + sign_width cs) (prefix_len is_digit (drop (sign_width cs) cs)) in
    let m = prefix_fits is_digit (drop (sign_width cs) cs) in
    elim (marks_exponent c) as (λ b. cond b (with_digits (1 + sign_width cs) (prefix_len is_digit (drop (sign_width cs) cs))) 0 ≤ suc (length cs)) [
      | true ↦ omega (arith, n, m, sign_fits cs, length-drop (sign_width cs) cs)
      | false ↦ omega arith
    ]

fraction_fits : (text : List ℕ) → fraction_len text ≤ length text
fraction_fits [] = omega arith
fraction_fits (c ∷ cs) =
    elim (c == 46) as (λ b. cond b (with_digits 1 (prefix_len is_digit cs)) 0 ≤ suc (length cs)) [
      | true ↦ omega (arith, with_fits 1 (prefix_len is_digit cs), prefix_fits is_digit cs)
      | false ↦ omega arith
    ]

scale_fits : (text : List ℕ) → scale_len text ≤ length text
scale_fits text = omega (arith, fraction_fits text, exponent_fits (drop (fraction_len text) text), length-drop (fraction_len text) text)

real_fits : (text : List ℕ) → real_len text ≤ length text
real_fits text =
    let n : ℕ = prefix_len is_digit text in
    elim (scale_len (drop n text) == 0) as (λ b. cond b 0 (n + scale_len (drop n text)) ≤ length text) [
      | true ↦ omega arith
      | false ↦ omega (arith, prefix_fits is_digit text, scale_fits (drop n text), length-drop n text)
    ]

literal_fits : (text : List ℕ) → literal_len text ≤ length text
literal_fits [] = omega arith
literal_fits (c ∷ cs) = grind arith

sign_len_fits : (text : List ℕ) → 1 ≤ length text → sign_len text ≤ length text
sign_len_fits text l = grind arith

-- ---- what a prefix is

abbrev Found : Bool → List ℕ → Type 0
Found is_after_name text = ((class : Class) × (n : ℕ) × Longest is_after_name class text n) ⊎ NoneStands is_after_name text

at_digit : (is_after_name : Bool) (text : List ℕ) → 1 ≤ length text → begins is_after_name (get_or text 0 0) ≡ false → is_digit (get_or text 0 0) ≡ true → Found is_after_name text
at_digit is_after_name text l h d =
    ⊎_elim
    (λ (some : 0 < real_len text). inl (Real, real_len text, longest_real_at is_after_name text _ _ l refl h d refl (real_fits text) some))
    (λ (none : real_len text ≤ 0). inl (Number, prefix_len is_digit text, longest_number_at is_after_name text _ _ _ l refl h d refl refl none))
    (order 0 (real_len text))

at_quote : (is_after_name : Bool) (text : List ℕ) → 1 ≤ length text → begins is_after_name (get_or text 0 0) ≡ false → is_quote (get_or text 0 0) ≡ true → Found is_after_name text
at_quote is_after_name text l h q =
    ⊎_elim
    (λ (some : 0 < literal_len text). inl (Literal, literal_len text, longest_literal_at is_after_name text _ _ l refl h q refl (literal_fits text) some))
    (λ (none : literal_len text ≤ 0). inr (no_literal_at is_after_name text _ _ l refl h q refl none))
    (order 0 (literal_len text))

at_other : (is_after_name : Bool) (text : List ℕ) → 1 ≤ length text → begins is_after_name (get_or text 0 0) ≡ false → is_digit (get_or text 0 0) ≡ false → is_quote (get_or text 0 0) ≡ false → Found is_after_name text
at_other is_after_name text l h d q =
    ⊎_elim
    (λ (some : 0 < sign_len text). inl (Sign, sign_len text, longest_sign_at is_after_name text _ _ l refl h d q refl (sign_len_fits text l) some))
    (λ (none : sign_len text ≤ 0). inr (no_sign_at is_after_name text _ _ l refl h d q refl none))
    (order 0 (sign_len text))

found : (is_after_name : Bool) (text : List ℕ) → 1 ≤ length text → Found is_after_name text
found is_after_name text l =
    elim (begins is_after_name (get_or text 0 0)) as (λ b. begins is_after_name (get_or text 0 0) ≡ b → Found is_after_name text) [
      | true ↦ λ h. inl (Word, _, longest_word_at is_after_name text _ _ l refl h refl)
      | false ↦ λ h.
          elim (is_digit (get_or text 0 0)) as (λ b. is_digit (get_or text 0 0) ≡ b → Found is_after_name text) [
            | true ↦ λ d. at_digit is_after_name text l h d
            | false ↦ λ d.
                elim (is_quote (get_or text 0 0)) as (λ b. is_quote (get_or text 0 0) ≡ b → Found is_after_name text) [
                  | true ↦ λ q. at_quote is_after_name text l h q
                  | false ↦ λ q. at_other is_after_name text l h d q
                ] refl
          ] refl
    ] refl

-- ---- what a text says

abbrev Says : Class → List ℕ → Type 0
Says class text = ((t : Token) × Spells class text t) ⊎ ((code : ℕ) × IsRefused class text code)

says : (class : Class) (text : List ℕ) → HasShape class text → Says class text
says Word text h =
    elim (key_of text) as (λ o. key_of text ≡ o → Says Word text) [
      | Some k ↦ λ e. inl (token.Key k, e)
      | None ↦ λ e.
          elim (names_reals text) as (λ b. names_reals text ≡ b → Says Word text) [
            | true ↦ λ r. inr (REAL, (r, refl))
            | false ↦ λ r. inl (token.Named text, (e, r, refl))
          ] refl
    ] refl
says Number text h =
    ⊎_elim
    (λ (large : 2147483647 < value text). inr (NUMBER_TOO_LARGE, (large, refl)))
    (λ (fits : value text ≤ 2147483647). inl (token.Number (pos (value text)), (fits, refl)))
    (order 2147483647 (value text))
says Real text h = inr (REAL, refl)
says Literal text h = inl (token.Literal h.0, h.2)
says Sign text h =
    elim (sign_of text) as (λ o. sign_of text ≡ o → is_some o ≡ true → Says Sign text) [
      | Some s ↦ λ e some. inl (token.Sign s, e)
      | None ↦ λ e some. absurd (let none : ⊥ = cc in none)
    ] refl h

-- ---- whole lines

abbrev HasCuts : Bool → ℕ → List ℕ → Type 0
HasCuts is_after_name at line = (ts : List Spanned) × (fault : Option LexFault) × Cuts is_after_name at line ts fault

step_some : (is_after_name : Bool) (at : ℕ) (line : List ℕ) → at < length line → is_blank (get_or line at 0) ≡ false → begins_comment (get_or line at 0) ≡ false → ((is_after_name : Bool) (to : ℕ) → at < to → to ≤ length line → HasCuts is_after_name to line) → HasCuts is_after_name at line
step_some is_after_name at line lt b k more =
    ⊎_elim
    (λ (stands : (class : Class) × (n : ℕ) × Longest is_after_name class (drop at line) n). ⊎_elim
    (λ (read : (t : Token) × Spells stands.0 (take stands.1 (drop at line)) t).
    let here = token_here is_after_name line (drop at line) at stands.1 stands.0 (reading.Token read.0) read.0 lt refl stands.2 read.1 refl in
    let rest = more (is_name read.0) (at + stands.1) here.1 here.2 in
    (record { token = read.0; from = at; to = at + stands.1 } ∷ rest.0, rest.1, cut_token is_after_name at (get_or line at 0) line (record { token = read.0; from = at; to = at + stands.1 }) rest.0 rest.1 (lt, default) b k refl here.3 rest.2))
    (λ (refused : (code : ℕ) × IsRefused stands.0 (take stands.1 (drop at line)) code).
    ([], Some (record { code = refused.0; place = at }), cut_fault is_after_name at (get_or line at 0) line (record { code = refused.0; place = at }) (lt, default) b k refl (inr (stands.0, stands.1, stands.2, refused.1))))
    (says stands.0 (take stands.1 (drop at line)) stands.2.stands.1.1))
    (λ (none : NoneStands is_after_name (drop at line)).
    ([], Some (record { code = bad_code (get_or (drop at line) 0 0); place = at }), cut_fault is_after_name at (get_or line at 0) line (record { code = bad_code (get_or (drop at line) 0 0); place = at }) (lt, default) b k refl (inl (none, refl))))
    (found is_after_name (drop at line) (omega (arith, length-drop at line))) where
      default : get_or line at 0 ≡ get_or line at (get_or line at 0)
      default = sym (get_or_default_zero line at (get_or line at 0) lt)

cuts_some : (k : ℕ) (is_after_name : Bool) (at : ℕ) (line : List ℕ) → length line - at ≤ k → at ≤ length line → HasCuts is_after_name at line
cuts_some zero is_after_name at line h le = ([], None, over_end at line le (omega arith))
cuts_some (suc k) is_after_name at line h le =
    ⊎_elim
    (λ (lt : at < length line).
    let default : get_or line at 0 ≡ get_or line at (get_or line at 0) = sym (get_or_default_zero line at (get_or line at 0) lt) in
    elim (is_blank (get_or line at 0)) as (λ b. is_blank (get_or line at 0) ≡ b → HasCuts is_after_name at line) [
      | true ↦ λ b. let rest = cuts_some k is_after_name (at + 1) line (omega arith) (omega arith) in (rest.0, rest.1, cut_blank_at is_after_name at (get_or line at 0) line rest.0 rest.1 (lt, default) b rest.2)
      | false ↦ λ b.
          elim (begins_comment (get_or line at 0)) as (λ c. begins_comment (get_or line at 0) ≡ c → HasCuts is_after_name at line) [
            | true ↦ λ c. ([], None, over_comment at (get_or line at 0) line (lt, default) c)
            | false ↦ λ c. step_some is_after_name at line lt b c (λ name to further within. cuts_some k name to line (omega arith) within)
          ] refl
    ] refl)
    (λ (ge : length line ≤ at). ([], None, over_end at line le ge))
    (order at (length line))

pub some_cut : (line : List ℕ) → (tokens : List Spanned) × (fault : Option LexFault) × Cut line tokens fault
some_cut line = let cuts = cuts_some (length line) false 0 line (omega arith) (omega arith) in (joined cuts.0, cuts.1, (cuts.0, cuts.2, refl))
