-- Facts about operands.
use Rattle.std.proofs.Common.{◌≡◌, ℕ, suc, ◌+◌, ◌-◌, ◌≤◌, ◌<◌, true, false, List, [], ◌∷◌, ◌++◌, take, drop, length, reverse, map, set, nat_le, refl, sym, ap, ◌∙◌, arith}
use Rattle.std.specs.Prelude.{ℤ}
use Rattle.std.proofs.lemmas.Bool.Decides.{nat_tests}
use Rattle.std.proofs.lemmas.Grind.{common_steps}
use Rattle.std.proofs.lemmas.List.{reverse-append, reverse-reverse, length-reverse, set_split, take-append-drop, take_all}
use Rattle.std.proofs.Math.Seq.{take-append_seam, drop-append_seam}
use Rattle.kumir_values.specs.declared.value.Value.{Value}
use Rattle.kumir_values.specs.declared.value.Value.TheVariants.{Whole}
use Rattle.kumir_meaning.specs.Operators.{number_of}
use Rattle.stack_code.specs.CodeState.{top, rest, numbers}

pub three_left : (xs : List Value) → rest (rest (rest xs)) ≡ drop 3 xs
three_left [] = refl
three_left (a ∷ []) = refl
three_left (a ∷ (b ∷ [])) = refl
three_left (a ∷ (b ∷ (c ∷ xs))) = refl

length-drop : (n : ℕ) (xs : List Value) → length (drop n xs) ≡ length xs - n
length-drop n xs = grind (arith, common_steps)

-- a list in two, seen from its end
split_end : (xs : List Value) (m : ℕ) → reverse xs ≡ reverse (drop m xs) ++ reverse (take m xs)
split_end xs m = ap reverse (sym (take-append-drop m xs)) ∙ reverse-append (take m xs) (drop m xs)

taken : (xs ys : List Value) (n : ℕ) → n ≡ length xs → take n (xs ++ ys) ≡ xs
taken xs ys n e = ap (λ k. take k (xs ++ ys)) e ∙ take-append_seam xs ys

dropped : (xs ys : List Value) (n : ℕ) → n ≡ length xs → drop n (xs ++ ys) ≡ ys
dropped xs ys n e = ap (λ k. drop k (xs ++ ys)) e ∙ drop-append_seam xs ys

drop_all : (n : ℕ) (xs : List Value) → length xs ≤ n → drop n xs ≡ []
drop_all n xs h = grind (arith, common_steps, h)

-- what was pushed last, in the order in which it was
pub last_pushed : (xs : List Value) (n m : ℕ) → m ≡ length xs - n → drop m xs ≡ reverse (take n (reverse xs))
last_pushed xs n m e = elim (nat_le n (length xs)) as (λ b. nat_le n (length xs) ≡ b → drop m xs ≡ reverse (take n (reverse xs))) [
  | true ↦ λ l.
      let d = length-drop m xs in
      let r = length-reverse (drop m xs) in
      let w : n ≤ length xs = grind (arith, nat_tests, l) in
      let k : n ≡ length (reverse (drop m xs)) = omega (arith, e, w, d, r) in
      sym (reverse-reverse (drop m xs)) ∙ ap reverse (sym (ap (take n) (split_end xs m) ∙ taken (reverse (drop m xs)) (reverse (take m xs)) n k))
  | false ↦ λ l.
      let w : length xs < n = grind (arith, nat_tests, l) in
      let z : m ≡ 0 = omega (arith, e, w) in
      let r = length-reverse xs in
      let k : length (reverse xs) ≤ n = omega (arith, w, r) in
      ap (λ k. drop k xs) z ∙ sym (reverse-reverse xs) ∙ ap reverse (sym (take_all n (reverse xs) k))
] refl

pub without_last : (xs : List Value) (n m : ℕ) → m ≡ length xs - n → reverse (take m xs) ≡ drop n (reverse xs)
without_last xs n m e = elim (nat_le n (length xs)) as (λ b. nat_le n (length xs) ≡ b → reverse (take m xs) ≡ drop n (reverse xs)) [
  | true ↦ λ l.
      let d = length-drop m xs in
      let r = length-reverse (drop m xs) in
      let w : n ≤ length xs = grind (arith, nat_tests, l) in
      let k : n ≡ length (reverse (drop m xs)) = omega (arith, e, w, d, r) in
      sym (ap (drop n) (split_end xs m) ∙ dropped (reverse (drop m xs)) (reverse (take m xs)) n k)
  | false ↦ λ l.
      let w : length xs < n = grind (arith, nat_tests, l) in
      let z : m ≡ 0 = omega (arith, e, w) in
      let r = length-reverse xs in
      let k : length (reverse xs) ≤ n = omega (arith, w, r) in
      ap (λ k. reverse (take k xs)) z ∙ sym (drop_all n (reverse xs) k)
] refl

-- the two on top
pub two_on_top : (xs : List Value) (a b : Value) → reverse (take 2 xs) ≡ a ∷ b ∷ [] → xs ≡ b ∷ a ∷ rest (rest xs)
two_on_top [] a b e = absurd (let wrong : ⊥ = cc in wrong)
two_on_top (c ∷ []) a b e = absurd (let wrong : ⊥ = cc in wrong)
two_on_top (c ∷ (d ∷ xs)) a b e = cc

-- another value in the place of the top
top_replaced : (ys : List Value) (n : ℕ) (v : Value) → length ys ≡ n + 1 → reverse (set ys n v) ≡ v ∷ drop 1 (reverse ys)
top_replaced ys n v e =
    let there : n < length ys = omega (arith, e) in
    let none : length ys ≤ suc n = omega (arith, e) in
    let but_one : n ≡ length ys - 1 = omega (arith, e) in
    ap reverse (set_split ys n v there ∙ ap (λ l. take n ys ++ v ∷ l) (drop_all (suc n) ys none)) ∙ reverse-append (take n ys) (v ∷ []) ∙ ap (λ l. v ∷ l) (without_last ys 1 n but_one)

drop_two : (xs : List Value) → drop 1 (drop 1 xs) ≡ rest (rest xs)
drop_two [] = refl
drop_two (a ∷ []) = refl
drop_two (a ∷ (b ∷ xs)) = refl

-- another value in the place of the two on top
pub two_replaced : (xs ys stack : List Value) (n : ℕ) (v : Value) → reverse xs ≡ stack → ys ≡ take (length xs - 1) xs → n ≡ length ys → 2 ≤ length stack → reverse (set ys (n - 1) v) ≡ v ∷ rest (rest stack)
two_replaced xs ys stack n v s e l h =
    let turned = ap reverse e ∙ without_last xs 1 (length xs - 1) refl ∙ ap (drop 1) s in
    let all = length-reverse ys in
    let left = ap length turned ∙ length-drop 1 stack in
    let there : length ys ≡ n - 1 + 1 = omega (arith, l, h, all, left) in
    top_replaced ys (n - 1) v there ∙ ap (λ k. v ∷ drop 1 k) turned ∙ ap (λ k. v ∷ k) (drop_two stack)

-- the numbers on top
pub one_number : (xs : List Value) (n : ℤ) → reverse (take 1 xs) ≡ Whole n ∷ [] → numbers 1 xs ≡ n ∷ []
one_number xs n e = ap (map number_of) e

pub one_below : (xs : List Value) (n : ℤ) (v : Value) → reverse (take 2 xs) ≡ Whole n ∷ v ∷ [] → (numbers 1 (rest xs) ≡ n ∷ []) × (top xs ≡ v)
one_below [] n v e = absurd (let wrong : ⊥ = cc in wrong)
one_below (a ∷ []) n v e = absurd (let wrong : ⊥ = cc in wrong)
one_below (a ∷ (b ∷ xs)) n v e = (cc, cc)

pub two_below : (xs : List Value) (n m : ℤ) (v : Value) → reverse (take 3 xs) ≡ Whole n ∷ Whole m ∷ v ∷ [] → (numbers 2 (rest xs) ≡ n ∷ m ∷ []) × (top xs ≡ v)
two_below [] n m v e = absurd (let wrong : ⊥ = cc in wrong)
two_below (a ∷ []) n m v e = absurd (let wrong : ⊥ = cc in wrong)
two_below (a ∷ (b ∷ [])) n m v e = absurd (let wrong : ⊥ = cc in wrong)
two_below (a ∷ (b ∷ (d ∷ xs))) n m v e = (cc, cc)

-- another value in the place of the one on top
pub one_replaced : (ys stack : List Value) (n : ℕ) (v : Value) → reverse ys ≡ stack → n ≡ length ys → 1 ≤ length stack → reverse (set ys (n - 1) v) ≡ v ∷ drop 1 stack
one_replaced ys stack n v s l h =
    let all = length-reverse ys in
    let same = ap length s in
    let there : length ys ≡ n - 1 + 1 = omega (arith, l, h, all, same) in
    top_replaced ys (n - 1) v there ∙ ap (λ k. v ∷ drop 1 k) s
