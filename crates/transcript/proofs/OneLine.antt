-- No two entries share a line.
use Rattle.std.proofs.Common.{◌≡◌, ℕ, suc, ◌^◌, ◌<◌, Bool, true, false, List, [], ◌∷◌, ◌++◌, Some, get_or, map, eqb, codes, encode_utf8_all, refl, sym, ap, ◌∙◌, arith}
use Rattle.std.specs.Prelude.{All}
use Rattle.std.specs.List.{slice_split}
use Rattle.std.specs.Fmt.{decimal}
use Rattle.std.specs.Str.{bytes_eq, chars, all_scalars}
use Rattle.std.specs.Str.Parse.{AllDigits, digits_value}
use Rattle.std.proofs.lemmas.Bool.Decides.{Decides-eqb}
use Rattle.std.proofs.lemmas.List.{append_cancel_left, get_or_default}
use Rattle.std.proofs.lemmas.List.Splits.{slice_split_none, slice_split_at}
use Rattle.std.proofs.lemmas.Str.Parse.{IsNumeralModel, numerals_by_value, tells_digits, not_in_digits}
use Rattle.std.proofs.lemmas.Fmt.{decimal_is_IsNumeral, decimal_injective}
use Rattle.margins.specs.declared.margin.Mark.{Mark}
use Rattle.margins.specs.Marks.{IsMark, IsMargin}
use Rattle.margins.specs.Printed.{mark_word}
use Rattle.margins.proofs.Words.{tails_same}
use Rattle.transcript.specs.declared.entry.Entry.{Entry}
use Rattle.transcript.specs.declared.entry.Entry.TheVariants.{Margin, Out}
use Rattle.transcript.specs.Print.{escaped, entry_line, IsNumber, IsEntry, IsPrintable}
use Rattle.transcript.specs.Reading.{parts, unescaped, entry_of}
use Rattle.transcript.proofs.Again.{first_number, words_again}
use Rattle.transcript.proofs.Escapes.{text_again}
use Rattle.transcript.proofs.Heads.{first_word, heads_same, first_is, out_alone, margin_alone, plain_else, margin_parts, some_part}

own : IsNumeralModel (AllDigits 10) (digits_value 10)
own = numerals_by_value (AllDigits 10) tells_digits

no_colon : (n : ℕ) → n < 2 ^ 64 → All (λ c. eqb c 58 ≡ false) (decimal n)
no_colon n small k d within =
    elim (eqb (get_or (decimal n) k d) 58) as (λ b. eqb (get_or (decimal n) k d) 58 ≡ b → b ≡ false) [
      | true ↦ λ is.
          absurd (not_in_digits own (decimal n) 58 (decimal_is_IsNumeral n small).0.1 (λ h. omega arith) k within
          (get_or_default (decimal n) k 0 d within ∙ (Decides-eqb (get_or (decimal n) k d) 58).0 is))
      | false ↦ λ other. refl
    ] refl

cut_mark : (m : Mark) → IsMark m → slice_split (λ b. eqb b 58) (mark_word m) ≡ decimal m.line ∷ decimal m.code ∷ []
cut_mark m h =
    slice_split_at (λ b. eqb b 58) (decimal m.line) 58 (decimal m.code) (no_colon m.line (omega (arith, h.line))) refl
    ∙ ap (λ l. decimal m.line ∷ l) (slice_split_none (λ b. eqb b 58) (decimal m.code) (no_colon m.code (omega (arith, h.code))))

one_mark : (m n : Mark) → IsMark m → IsMark n → mark_word m ≡ mark_word n → m ≡ n
one_mark m n h k is =
    let both = sym (cut_mark m h) ∙ ap (slice_split (λ b. eqb b 58)) is ∙ cut_mark n k in
    let line : m.line ≡ n.line = decimal_injective m.line n.line (omega (arith, h.line)) (omega (arith, k.line)) (heads_same _ _ _ _ both) in
    let code : m.code ≡ n.code = decimal_injective m.code n.code (omega (arith, h.code)) (omega (arith, k.code)) (heads_same _ _ _ _ (tails_same _ _ _ _ both)) in
    λ i. record { line = line i; code = code i }

one_list : (ms ns : List Mark) → All IsMark ms → All IsMark ns → map mark_word ms ≡ map mark_word ns → ms ≡ ns
one_list [] [] h k is = refl
one_list [] (n ∷ ns) h k is = absurd (let never : ⊥ = cc in never)
one_list (m ∷ ms) [] h k is = absurd (let never : ⊥ = cc in never)
one_list (m ∷ ms) (n ∷ ns) h k is =
    let head = one_mark m n (h 0 m (omega arith)) (k 0 n (omega arith)) (heads_same _ _ _ _ is) in
    let tail = one_list ms ns (λ j d w. h (suc j) d (omega arith)) (λ j d w. k (suc j) d (omega arith)) (tails_same _ _ _ _ is) in
    λ i. head i ∷ tail i

one_margin : (v w : ℕ) (ms ns : List Mark) → IsNumber v → IsNumber w → IsMargin ms → IsMargin ns → entry_line (Margin v ms) ≡ entry_line (Margin w ns) → Margin v ms ≡ Margin w ns
one_margin v w ms ns h k f g is =
    let both = tails_same _ _ _ _ (sym (margin_parts v ms h f) ∙ ap parts is ∙ margin_parts w ns k g) in
    let version : v ≡ w = decimal_injective v w (omega (arith, h)) (omega (arith, k)) (heads_same _ _ _ _ both) in
    let marks = one_list ms ns f.each g.each (tails_same _ _ _ _ both) in
    λ i. Margin (version i) (marks i)

out_parts : (run : ℕ) (text : List ℕ) → IsNumber run → parts (entry_line (Out run text)) ≡ codes "out" ∷ decimal run ∷ parts (encode_utf8_all (escaped text))
out_parts run text h = ap (λ l. codes "out" ∷ l) (first_number run (encode_utf8_all (escaped text)) h)

one_out : (r q : ℕ) (s t : List ℕ) → IsNumber r → IsNumber q → all_scalars s ≡ true → all_scalars t ≡ true → entry_line (Out r s) ≡ entry_line (Out q t) → Out r s ≡ Out q t
one_out r q s t h k f g is =
    let both = tails_same _ _ _ _ (sym (out_parts r s h) ∙ ap parts is ∙ out_parts q t k) in
    let run : r ≡ q = decimal_injective r q (omega (arith, h)) (omega (arith, k)) (heads_same _ _ _ _ both) in
    let line : codes "out " ++ (decimal r ++ 32 ∷ encode_utf8_all (escaped s)) ≡ codes "out " ++ (decimal r ++ 32 ∷ encode_utf8_all (escaped t)) = is ∙ ap (λ n. codes "out " ++ (decimal n ++ 32 ∷ encode_utf8_all (escaped t))) (sym run) in
    let behind = append_cancel_left (decimal r) (32 ∷ encode_utf8_all (escaped s)) (32 ∷ encode_utf8_all (escaped t)) (append_cancel_left (codes "out ") _ _ line) in
    let bytes : encode_utf8_all (escaped s) ≡ encode_utf8_all (escaped t) = append_cancel_left (32 ∷ []) _ _ behind in
    let text : s ≡ t = sym (text_again s _ f refl) ∙ text_again t _ g bytes in
    λ i. Out (run i) (text i)

same_first : (e f : Entry) (ws : List (List ℕ)) → parts (entry_line e) ≡ ws → parts (entry_line f) ≡ ws → first_word e ≡ first_word f
same_first e f [] p q = absurd (some_part (entry_line e) (sym p))
same_first e f (w ∷ ws) p q = first_is e w ws p ∙ sym (first_is f w ws q)

some_same : (e f : Entry) → Some e ≡ Some f → e ≡ f
some_same e f is = cc

abbrev IsFirst : Entry → List ℕ → Bool → Type 0
IsFirst e word b = bytes_eq (first_word e) word ≡ b

pub one_line : (e f : Entry) → IsEntry e → IsPrintable e → IsEntry f → IsPrintable f → entry_line e ≡ entry_line f → e ≡ f
one_line e f h p k q is =
    let first : first_word e ≡ first_word f = same_first e f (parts (entry_line f)) (ap parts is) refl in
    elim (bytes_eq (first_word e) (codes "out")) as (λ b. IsFirst e (codes "out") b → e ≡ f) [
      | true ↦ λ out.
          out_alone e (entry_line e) (λ x. x ≡ f) h refl
          (λ r s h1 s1 e1. out_alone f (entry_line f) (λ y. Out r s ≡ y) k refl
          (λ t u h2 s2 e2. one_out r t s u h1 h2 s1 s2 (sym e1 ∙ is ∙ e2)) (ap (λ w. bytes_eq w (codes "out")) (sym first) ∙ out)) out
      | false ↦ λ not_out.
          elim (bytes_eq (first_word e) (codes "margin")) as (λ b. IsFirst e (codes "margin") b → e ≡ f) [
            | true ↦ λ margin.
                margin_alone e (entry_line e) (λ x. x ≡ f) h refl
                (λ v m h1 m1 e1. margin_alone f (entry_line f) (λ y. Margin v m ≡ y) k refl
                (λ w n h2 m2 e2. one_margin v w m n h1 h2 m1 m2 (sym e1 ∙ is ∙ e2)) (ap (λ w. bytes_eq w (codes "margin")) (sym first) ∙ margin)) margin
            | false ↦ λ not_margin.
                let plain = plain_else e not_out not_margin in
                let other = plain_else f (ap (λ w. bytes_eq w (codes "out")) (sym first) ∙ not_out) (ap (λ w. bytes_eq w (codes "margin")) (sym first) ∙ not_margin) in
                some_same e f (sym (words_again e h p plain) ∙ ap (λ l. entry_of (parts l)) is ∙ words_again f k q other)
          ] refl
    ] refl
