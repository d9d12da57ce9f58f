-- The text of an output is read from its escapes.
use Rattle.std.proofs.Common.{◌≡◌, ◌≢◌, ℕ, zero, suc, ◌<◌, Bool, true, false, cond, ◌&&◌, Option, Some, Bor, MatchOption, codes, List, [], ◌∷◌, ◌++◌, length, get_or, eqb, encode_utf8_all, refl, sym, ap, ◌∙◌, arith}
use Rattle.std.specs.Str.{chars, all_scalars}
use Rattle.std.proofs.lemmas.Bool.Decides.{Decides-eqb}
use Rattle.std.proofs.lemmas.Str.{chars-encodes}
use Rattle.std.proofs.lemmas.Bool.{false≢true}
use Rattle.std.specs.Fmt.{decimal}
use Rattle.std.specs.Str.Parse.{AllDigits, digits_value}
use Rattle.std.proofs.lemmas.Str.Parse.{IsNumeralModel, numerals_by_value, tells_digits, not_in_digits}
use Rattle.std.proofs.lemmas.Str.Pattern.{IsSplitOnceResult, split_after}
use Rattle.std.proofs.lemmas.Fmt.{decimal_is_IsNumeral}
use Rattle.transcript.specs.declared.entry.Entry.TheVariants.{Out}
use Rattle.transcript.specs.Print.{escaped, escaped_char, entry_line, IsNumber}
use Rattle.transcript.specs.Reading.{unescaped}

pub read_char : (c : ℕ) (rest : List ℕ) → unescaped false (escaped_char c ++ rest) ≡ c ∷ unescaped false rest
read_char c rest =
    elim (eqb c 92) as (λ b. eqb c 92 ≡ b → unescaped false (cond b (92 ∷ 92 ∷ []) (cond (eqb c 10) (92 ∷ 110 ∷ []) (c ∷ [])) ++ rest) ≡ c ∷ unescaped false rest) [
      | true ↦ λ is. ap (λ x. x ∷ unescaped false rest) (sym ((Decides-eqb c 92).0 is))
      | false ↦ λ not.
          elim (eqb c 10) as (λ b. eqb c 10 ≡ b → unescaped false (cond b (92 ∷ 110 ∷ []) (c ∷ []) ++ rest) ≡ c ∷ unescaped false rest) [
            | true ↦ λ is. ap (λ x. x ∷ unescaped false rest) (sym ((Decides-eqb c 10).0 is))
            | false ↦ λ other. rw not refl
          ] refl
    ] refl

pub read_text : (text : List ℕ) → unescaped false (escaped text) ≡ text
read_text [] = refl
read_text (c ∷ text) = read_char c (escaped text) ∙ ap (λ l. c ∷ l) (read_text text)

and_both : (a b : Bool) → (a && b) ≡ true → (a ≡ true) × (b ≡ true)
and_both true true e = (refl, refl)
and_both true false e = absurd (false≢true e)
and_both false b e = absurd (false≢true e)

scalar_escaped : (c : ℕ) (rest : List ℕ) → all_scalars (c ∷ rest) ≡ true → all_scalars rest ≡ true → (bs : List ℕ) → all_scalars bs ≡ true → all_scalars (escaped_char c ++ bs) ≡ true
scalar_escaped c rest h k bs fine =
    elim (eqb c 92) as (λ b. all_scalars (cond b (92 ∷ 92 ∷ []) (cond (eqb c 10) (92 ∷ 110 ∷ []) (c ∷ [])) ++ bs) ≡ true) [
      | true ↦ fine
      | false ↦ elim (eqb c 10) as (λ b. all_scalars (cond b (92 ∷ 110 ∷ []) (c ∷ []) ++ bs) ≡ true) [
        | true ↦ fine
        | false ↦ ap (λ b. b && all_scalars bs) (and_both _ _ h).0 ∙ fine
      ]
    ]

pub scalars_escaped : (text : List ℕ) → all_scalars text ≡ true → all_scalars (escaped text) ≡ true
scalars_escaped [] h = refl
scalars_escaped (c ∷ text) h =
    let rest = (and_both _ _ h).1 in
    scalar_escaped c text h rest (escaped text) (scalars_escaped text rest)

-- the characters of a printed text are read as the text
pub text_again : (text bytes : List ℕ) → all_scalars text ≡ true → bytes ≡ encode_utf8_all (escaped text) → unescaped false (chars bytes) ≡ text
text_again text bytes h is = ap (λ b. unescaped false (chars b)) is ∙ ap (unescaped false) (chars-encodes (escaped text) (scalars_escaped text h)) ∙ read_text text

own : IsNumeralModel (AllDigits 10) (digits_value 10)
own = numerals_by_value (AllDigits 10) tells_digits

no_blank : (n : ℕ) → IsNumber n → (i : ℕ) → i < length (decimal n) → get_or (decimal n) i 0 ≢ 32
no_blank n small = not_in_digits own (decimal n) 32 (decimal_is_IsNumeral n (omega (arith, small))).0.1 (λ h. omega arith)

no_blank_out : (i : ℕ) → i < length (codes "out") → get_or (codes "out") i 0 ≢ 32
no_blank_out zero h e = omega (arith, e)
no_blank_out (suc zero) h e = omega (arith, e)
no_blank_out (suc (suc zero)) h e = omega (arith, e)
no_blank_out (suc (suc (suc i))) h e = omega (arith, h)

-- what stands behind `out` and its blank
pub behind_out : (line : List ℕ) (run : ℕ) (text : List ℕ) (r : Option (Bor (List ℕ) × Bor (List ℕ))) → IsSplitOnceResult 32 line r → line ≡ entry_line (Out run text) → MatchOption r ⊥ (λ x. (x.0.now ≡ codes "out") × (x.1.now ≡ decimal run ++ 32 ∷ encode_utf8_all (escaped text)))
behind_out line run text r cut is = split_after 32 line (codes "out") (decimal run ++ 32 ∷ encode_utf8_all (escaped text)) r cut (omega arith) is no_blank_out

-- the run and the text
pub run_and_text : (rest : List ℕ) (run : ℕ) (text : List ℕ) (r : Option (Bor (List ℕ) × Bor (List ℕ))) → IsSplitOnceResult 32 rest r → IsNumber run → rest ≡ decimal run ++ 32 ∷ encode_utf8_all (escaped text) → MatchOption r ⊥ (λ x. (x.0.now ≡ decimal run) × (x.1.now ≡ encode_utf8_all (escaped text)))
run_and_text rest run text r cut h is = split_after 32 rest (decimal run) (encode_utf8_all (escaped text)) r cut (omega arith) is (no_blank run h)

pub same_number : (r : Option ℕ) (m n : ℕ) → r ≡ Some m → r ≡ Some n → m ≡ n
same_number r m n p q = cc

-- one more character
pub scalars_more : (text : List ℕ) (c : ℕ) → all_scalars text ≡ true → all_scalars (c ∷ []) ≡ true → all_scalars (text ++ c ∷ []) ≡ true
scalars_more [] c h one = one
scalars_more (b ∷ text) c h one = ap (λ x. x && all_scalars (text ++ c ∷ [])) (and_both _ _ h).0 ∙ scalars_more text c (and_both _ _ h).1 one
