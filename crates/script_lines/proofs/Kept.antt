-- A line that is cut when it is kept reads as the line.
use Rattle.std.proofs.Common.{◌≡◌, ℕ, ◌+◌, ◌-◌, ◌<◌, ◌≤◌, Bool, true, false, cond, ◌&&◌, ◌||◌, List, length, take, drop, get_or, ◌⊎◌, ⊎_elim, refl, sym, ap, subst, ◌∙◌, arith, length-drop}
use Rattle.std.specs.Prelude.{◌==◌, slice_index}
use Rattle.std.specs.Str.{is_utf8}
use Rattle.std.specs.Str.Lines.{strip_carriage_return}
use Rattle.std.specs.List.{slice_split}
use Rattle.std.proofs.lemmas.Bool.{false≢true}
use Rattle.std.proofs.lemmas.Bool.Decides.{nat_tests}
use Rattle.std.proofs.lemmas.List.{take_all, get_or-take, get_or-drop, length-take-le}
use Rattle.kumir_tree.specs.Lines.{without_mark}
use Rattle.script_lines.specs.declared.request.Ask.TheVariants.{Bad}
use Rattle.script_lines.specs.declared.read.RequestLine.TheVariants.{Nothing, Alone}
use Rattle.script_lines.specs.Lines.{numbered, is_plain}
use Rattle.script_lines.specs.Words.{request_line, line_of_words}
use Rattle.script_lines.specs.Reader.{IsKept}
use Rattle.script_lines.proofs.Steps.{le_false}

abbrev at : List ℕ → ℕ → ℕ
at xs i = get_or xs i 0

-- two texts that begin alike, each longer than n
record Alike (n : ℕ) (xs ys : List ℕ) : Type 0 where
  first_long : n < length xs
  second_long : n < length ys
  zero_same : at xs 0 ≡ at ys 0
  one_same : at xs 1 ≡ at ys 1
  two_same : at xs 2 ≡ at ys 2
  three_same : at xs 3 ≡ at ys 3

-- the text without its last byte begins as it did
strip_at : (xs : List ℕ) (i : ℕ) → i + 1 < length xs → at (strip_carriage_return xs) i ≡ at xs i
strip_at xs i h =
    elim (slice_index xs (length xs - 1) == 13) as (λ t. at (cond t (take (length xs - 1) xs) xs) i ≡ at xs i) [
      | true ↦ get_or-take (length xs - 1) xs i 0 (omega arith)
      | false ↦ refl
    ]

strip_long : (xs : List ℕ) (n : ℕ) → n + 1 < length xs → n < length (strip_carriage_return xs)
strip_long xs n h =
    elim (slice_index xs (length xs - 1) == 13) as (λ t. n < length (cond t (take (length xs - 1) xs) xs)) [
      | true ↦ let long = length-take-le (length xs - 1) xs (omega arith) in omega arith
      | false ↦ omega arith
    ]

strip_alike : (n : ℕ) (xs ys : List ℕ) → 4 ≤ n → Alike (n + 1) xs ys → Alike n (strip_carriage_return xs) (strip_carriage_return ys)
strip_alike n xs ys h a =
    let first_long = a.first_long in
    let second_long = a.second_long in
    record {
      first_long = strip_long xs n first_long;
      second_long = strip_long ys n second_long;
      zero_same = strip_at xs 0 (omega arith) ∙ a.zero_same ∙ sym (strip_at ys 0 (omega arith));
      one_same = strip_at xs 1 (omega arith) ∙ a.one_same ∙ sym (strip_at ys 1 (omega arith));
      two_same = strip_at xs 2 (omega arith) ∙ a.two_same ∙ sym (strip_at ys 2 (omega arith));
      three_same = strip_at xs 3 (omega arith) ∙ a.three_same ∙ sym (strip_at ys 3 (omega arith));
    }

-- long lines with one first byte
record Long (xs ys : List ℕ) : Type 0 where
  first_long : 4096 < length xs
  second_long : 4096 < length ys
  first : at xs 0 ≡ at ys 0

abbrev has_mark : ℕ → ℕ → ℕ → Bool
has_mark a b c = a == 239 && b == 187 && c == 191

cut_long : (t : Bool) (xs : List ℕ) → 4099 < length xs → 4096 < length (cond t (drop 3 xs) xs)
cut_long true xs h = let long = length-drop 3 xs in omega arith
cut_long false xs h = omega arith

cut_first : (t : Bool) (xs : List ℕ) → at (cond t (drop 3 xs) xs) 0 ≡ cond t (at xs 3) (at xs 0)
cut_first true xs = get_or-drop 3 xs 0 0
cut_first false xs = refl

abbrev drops_mark : ℕ → List ℕ → Bool
drops_mark n xs = n == 1 && has_mark (at xs 0) (at xs 1) (at xs 2)

numbered_cut : (n : ℕ) (xs : List ℕ) → numbered n xs ≡ cond (drops_mark n xs) (drop 3 xs) xs
numbered_cut n xs =
    elim (n == 1) as (λ t. cond t (without_mark xs) xs ≡ cond (t && has_mark (at xs 0) (at xs 1) (at xs 2)) (drop 3 xs) xs) [
      | true ↦ refl
      | false ↦ refl
    ]

numbered_long : (n : ℕ) (xs ys : List ℕ) → Alike 4099 xs ys → Long (numbered n xs) (numbered n ys)
numbered_long n xs ys a =
    let p : drops_mark n xs ≡ drops_mark n ys = λ i. n == 1 && has_mark (a.zero_same i) (a.one_same i) (a.two_same i) in
    record {
      first_long = subst (λ z. 4096 < length z) (sym (numbered_cut n xs)) (cut_long (drops_mark n xs) xs a.first_long);
      second_long = subst (λ z. 4096 < length z) (sym (numbered_cut n ys)) (cut_long (drops_mark n ys) ys a.second_long);
      first =
          ap (λ z. at z 0) (numbered_cut n xs) ∙ cut_first (drops_mark n xs) xs
          ∙ (λ i. cond (p i) (a.three_same i) (a.zero_same i))
          ∙ sym (ap (λ z. at z 0) (numbered_cut n ys) ∙ cut_first (drops_mark n ys) ys);
    }

not_plain : (xs : List ℕ) → 4096 < length xs → is_plain xs ≡ false
not_plain xs h = ap (λ t. t && is_utf8 xs) (le_false (length xs) 4096 h)

some_length : (n : ℕ) → 4096 < n → (n == 0) ≡ false
some_length n h = grind (arith, nat_tests)

long_line : (xs : List ℕ) → 4096 < length xs → request_line xs ≡ cond (at xs 0 == 35) Nothing (Alone Bad)
long_line xs h =
    ap (λ t. cond (t || at xs 0 == 35) Nothing (cond (is_plain xs) (line_of_words (slice_split (λ b. b == 32) xs)) (Alone Bad))) (some_length (length xs) h)
    ∙ ap (λ t. cond (at xs 0 == 35) Nothing (cond t (line_of_words (slice_split (λ b. b == 32) xs)) (Alone Bad))) (not_plain xs h)

long_kept : (xs ys : List ℕ) → Long xs ys → IsKept ys xs
long_kept xs ys l = record {
  request = long_line xs l.first_long ∙ ap (λ c. cond (c == 35) Nothing (Alone Bad)) l.first ∙ sym (long_line ys l.second_long);
  plain = not_plain xs l.first_long ∙ sym (not_plain ys l.second_long);
  same = λ plain. absurd (false≢true (sym (not_plain xs l.first_long) ∙ plain));
}

same_kept : (xs ys : List ℕ) → xs ≡ ys → IsKept ys xs
same_kept xs ys e = record { request = ap request_line e; plain = ap is_plain e; same = λ plain. e }

short_or_long : (n : ℕ) → (n ≤ 4101) ⊎ (4101 < n)
short_or_long n = grind arith

prefix_alike : (xs : List ℕ) → 4101 < length xs → Alike 4100 (take 4101 xs) xs
prefix_alike xs h =
    let long = length-take-le 4101 xs (omega arith) in
    record {
      first_long = omega arith;
      second_long = omega arith;
      zero_same = get_or-take 4101 xs 0 0 (omega arith);
      one_same = get_or-take 4101 xs 1 0 (omega arith);
      two_same = get_or-take 4101 xs 2 0 (omega arith);
      three_same = get_or-take 4101 xs 3 0 (omega arith);
    }

prefix_alike_less : (xs : List ℕ) → 4101 < length xs → Alike 4099 (take 4101 xs) xs
prefix_alike_less xs h =
    let a = prefix_alike xs h in
    let first_long = a.first_long in
    let second_long = a.second_long in
    record { first_long = omega arith; second_long = omega arith; zero_same = a.zero_same; one_same = a.one_same; two_same = a.two_same; three_same = a.three_same }

-- a line that is ended
pub kept_ended : (n : ℕ) (line : List ℕ) → IsKept (numbered n (strip_carriage_return line)) (numbered n (strip_carriage_return (take 4101 line)))
kept_ended n line =
    ⊎_elim
    (λ (short : length line ≤ 4101). same_kept _ _ (ap (λ l. numbered n (strip_carriage_return l)) (take_all 4101 line short)))
    (λ (long : 4101 < length line). long_kept _ _ (numbered_long n _ _ (strip_alike 4099 (take 4101 line) line (omega arith) (prefix_alike line long))))
    (short_or_long (length line))

-- the last line, which no line feed ends
pub kept_last : (n : ℕ) (line : List ℕ) → IsKept (numbered n line) (numbered n (take 4101 line))
kept_last n line =
    ⊎_elim
    (λ (short : length line ≤ 4101). same_kept _ _ (ap (numbered n) (take_all 4101 line short)))
    (λ (long : 4101 < length line). long_kept _ _ (numbered_long n _ _ (prefix_alike_less line long)))
    (short_or_long (length line))
