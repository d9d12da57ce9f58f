-- Values on the operand stack.
use Rattle.std.proofs.Common.{◌≡◌, ℕ, List, [], ◌∷◌, ◌++◌, length, map, reverse, take, drop, refl, sym, ap, ◌∙◌, arith, append_assoc}
use Rattle.std.proofs.lemmas.Grind.{common_steps}
use Rattle.kumir_values.specs.declared.value.Value.{Value}
use Rattle.kumir_meaning.specs.Operators.{number_of}
use Rattle.kumir_meaning.specs.Expressions.{numbers_of}
use Rattle.stack_code.specs.CodeState.{numbers}

-- values that were pushed in this order
abbrev pub onto : List Value → List Value → List Value
onto [] stack = stack
onto (v ∷ vs) stack = onto vs (v ∷ stack)

reverse_onto : (vs stack : List Value) → onto vs stack ≡ reverse vs ++ stack
reverse_onto [] stack = refl
reverse_onto (v ∷ vs) stack = reverse_onto vs (v ∷ stack) ∙ sym (ap (λ l. l ++ stack) (reverse_more v vs) ∙ append_assoc (reverse vs) (v ∷ []) stack)
  where
    reverse_more : (v : Value) (vs : List Value) → reverse (v ∷ vs) ≡ reverse vs ++ (v ∷ [])
    reverse_more v vs = grind (arith, common_steps)

take_front : (vs stack : List Value) (n : ℕ) → length vs ≡ n → take n (vs ++ stack) ≡ vs
take_front vs stack n e = grind (arith, common_steps)

drop_front : (vs stack : List Value) (n : ℕ) → length vs ≡ n → drop n (vs ++ stack) ≡ stack
drop_front vs stack n e = grind (arith, common_steps)

length_reverse : (vs : List Value) → length (reverse vs) ≡ length vs
length_reverse vs = grind (arith, common_steps)

reverse_twice : (vs : List Value) → reverse (reverse vs) ≡ vs
reverse_twice vs = grind (arith, common_steps)

-- the last values that were pushed, in their order, and what is below them
pub taken_onto : (vs stack : List Value) (n : ℕ) → length vs ≡ n → reverse (take n (onto vs stack)) ≡ vs
taken_onto vs stack n e =
    ap (λ l. reverse (take n l)) (reverse_onto vs stack) ∙ ap reverse (take_front (reverse vs) stack n (length_reverse vs ∙ e)) ∙ reverse_twice vs

pub drop_onto : (vs stack : List Value) (n : ℕ) → length vs ≡ n → drop n (onto vs stack) ≡ stack
drop_onto vs stack n e = ap (drop n) (reverse_onto vs stack) ∙ drop_front (reverse vs) stack n (length_reverse vs ∙ e)

pub numbers_onto : (vs stack : List Value) (n : ℕ) → length vs ≡ n → numbers n (onto vs stack) ≡ numbers_of vs
numbers_onto vs stack n e = ap (map number_of) (taken_onto vs stack n e)
