-- Prefixes of a list all of whose members pass a test.
use Rattle.std.proofs.Common.{◌≡◌, ℕ, zero, suc, ◌+◌, ◌≤◌, Bool, true, false, cond, ◌||◌, ◌==◌, List, [], ◌∷◌, ◌++◌, length, take, arith, subst, refl}
use Rattle.std.specs.List.{AllByRecursion, prefix_len}
use Rattle.kumir_lexer.specs.Classes.{is_digit, in_word, begins_word, begins, IsDigits, marks_exponent, is_plus_or_minus}

pub prefix_fits : (p : ℕ → Bool) (xs : List ℕ) → prefix_len p xs ≤ length xs
prefix_fits p [] = omega arith
prefix_fits p (x ∷ xs) = elim (p x) as (λ b. cond b (1 + prefix_len p xs) 0 ≤ suc (length xs)) [ true ↦ omega (arith, prefix_fits p xs) | false ↦ omega arith ]

pub prefix_passes : (p : ℕ → Bool) (xs : List ℕ) → AllByRecursion (λ d. p d ≡ true) (take (prefix_len p xs) xs)
prefix_passes p [] = tt
prefix_passes p (x ∷ xs) =
    let one : suc (prefix_len p xs) ≡ 1 + prefix_len p xs = omega arith in
    elim (p x) as (λ b. p x ≡ b → AllByRecursion (λ d. p d ≡ true) (take (cond b (1 + prefix_len p xs) 0) (x ∷ xs))) [ true ↦ λ e. subst (λ n. AllByRecursion (λ d. p d ≡ true) (take n (x ∷ xs))) one (e, prefix_passes p xs) | false ↦ λ e. tt ] refl

pub prefix_longest : (p : ℕ → Bool) (xs : List ℕ) (m : ℕ) → m ≤ length xs → AllByRecursion (λ d. p d ≡ true) (take m xs) → m ≤ prefix_len p xs
prefix_longest p xs zero h a = omega arith
prefix_longest p [] (suc m) h a = h
prefix_longest p (x ∷ xs) (suc m) h a = let i : m ≤ length xs = omega arith in rw a.0 (omega (arith, prefix_longest p xs m i a.1))

-- a prefix that passes, whatever follows
pub prefix_at_least : (p : ℕ → Bool) (xs rest : List ℕ) → AllByRecursion (λ d. p d ≡ true) xs → length xs ≤ prefix_len p (xs ++ rest)
prefix_at_least p [] rest a = omega arith
prefix_at_least p (x ∷ xs) rest a = rw a.0 (omega (arith, prefix_at_least p xs rest a.1))

-- a prefix that passes up to a member that does not
pub prefix_exact : (p : ℕ → Bool) (xs : List ℕ) (c : ℕ) (rest : List ℕ) → AllByRecursion (λ d. p d ≡ true) xs → p c ≡ false → prefix_len p (xs ++ c ∷ rest) ≡ length xs
prefix_exact p [] c rest a e = rw e refl
prefix_exact p (x ∷ xs) c rest a e = rw a.0 (omega (arith, prefix_exact p xs c rest a.1 e))

pub digits_pass : (ds : List ℕ) → IsDigits ds → AllByRecursion (λ d. is_digit d ≡ true) ds
digits_pass [] h = absurd h
digits_pass (d ∷ ds) h = h

pub digits_some : (ds : List ℕ) → IsDigits ds → 1 ≤ length ds
digits_some [] h = absurd h
digits_some (d ∷ ds) h = omega arith

pub digits_from : (ds : List ℕ) → 1 ≤ length ds → AllByRecursion (λ d. is_digit d ≡ true) ds → IsDigits ds
digits_from [] l h = absurd (omega arith)
digits_from (d ∷ ds) l h = h

digit_in_word : (d : ℕ) → is_digit d ≡ true → in_word d ≡ true
digit_in_word d h = elim (begins_word d) as (λ b. (b || is_digit d) ≡ true) [ true ↦ refl | false ↦ h ]

pub digits_in_word : (xs : List ℕ) → AllByRecursion (λ d. is_digit d ≡ true) xs → AllByRecursion (λ d. in_word d ≡ true) xs
digits_in_word [] a = tt
digits_in_word (x ∷ xs) a = (digit_in_word x a.0, digits_in_word xs a.1)

pub begins_in_word : (is_after_name : Bool) (c : ℕ) → begins is_after_name c ≡ true → in_word c ≡ true
begins_in_word true c h = h
begins_in_word false c h = elim (begins_word c) as (λ b. (b || false) ≡ true → (b || is_digit c) ≡ true) [ true ↦ λ e. refl | false ↦ λ (e : false ≡ true). cc ] h

pub mark_is_no_digit : (c : ℕ) → marks_exponent c ≡ true → is_digit c ≡ false
mark_is_no_digit c h = grind arith

pub mark_is_no_point : (c : ℕ) → marks_exponent c ≡ true → (c == 46) ≡ false
mark_is_no_point c h = grind arith

pub digit_is_no_sign : (c : ℕ) → is_digit c ≡ true → is_plus_or_minus c ≡ false
digit_is_no_sign c h = grind arith

pub sign_is_no_digit : (c : ℕ) → is_plus_or_minus c ≡ true → is_digit c ≡ false
sign_is_no_digit c h = grind arith
