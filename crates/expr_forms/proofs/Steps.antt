-- One step of each reading of an expression.
use Rattle.std.proofs.Common.{◌≡◌, ℕ, ℤ, zero, suc, ◌-◌, ◌<◌, nat_le, true, false, List, [], ◌∷◌, ◌++◌, length, drop, Option, Some, None, ap, ◌∙◌, refl, arith}
use Rattle.kumir_tree.specs.Tree as e
use Rattle.kumir_tree.specs.Tree.{Tree, Trees, no_trees}
use Rattle.kumir_tree.specs.Seen.{listed}
use Rattle.kumir_tree.specs.declared.kind.Op.{Op}
use Rattle.kumir_tree.specs.declared.kind.Op.TheVariants as op
use Rattle.kumir_tree.specs.declared.token.Token.{Token}
use Rattle.kumir_tree.specs.declared.token.Token.TheVariants as t
use Rattle.kumir_tree.specs.declared.token.Sign.{Sign}
use Rattle.kumir_tree.specs.declared.token.Sign.TheVariants as s
use Rattle.kumir_tree.specs.declared.token.Key.TheVariants as k
use Rattle.expr_forms.specs.Looks.{Outcome, first, sees, sees_key, same_sign, same_key}
use Rattle.expr_forms.specs.Reading.{relational, listed_from, listing, closed, arguments, indexes, bracketed, named, primary, part, signed_in, chain_from, chain, sum, comparison, negation_part, negation_in}

-- ---- lists

pub listed_ends : (A : Type 0) (item : List Token → Outcome A) (n : ℕ) (found : List A) (us rest : List Token) (x : A) → 0 < n → item us ≡ Some (x, rest) → sees s.Comma rest ≡ false → listed_from item n found us ≡ Some (found ++ x ∷ [], rest)
unfolding listed_from
listed_ends A item zero found us rest x lt h c = absurd (let none : ⊥ = omega arith in none)
listed_ends A item (suc n) found us rest x lt h c = rw (h, c) refl

pub listed_goes_on : (A : Type 0) (item : List Token → Outcome A) (n : ℕ) (found : List A) (us vs : List Token) (x : A) → 0 < n → item us ≡ Some (x, t.Sign s.Comma ∷ vs) → listed_from item n found us ≡ listed_from item (n - 1) (found ++ x ∷ []) vs
unfolding listed_from same_sign
listed_goes_on A item zero found us vs x lt h = absurd (let none : ⊥ = omega arith in none)
listed_goes_on A item (suc n) found us vs x lt h = let one : n ≡ suc n - 1 = omega arith in rw h (ap (λ m. listed_from item m (found ++ x ∷ []) vs) one)

pub closes : (A : Type 0) (w : Sign) (o : Outcome A) (x : A) (rest : List Token) → sees w (t.Sign w ∷ rest) ≡ true → o ≡ Some (x, t.Sign w ∷ rest) → closed w o ≡ Some (x, rest)
unfolding closed
closes A w o x rest s h = rw (h, s) refl

-- ---- brackets and names

module _ (E : List Token → Outcome Tree) where
  pub number_reads : (n : ℤ) (rest : List Token) → primary E (t.Number n ∷ rest) ≡ Some (e.Number n, rest)
  unfolding primary
  number_reads n rest = refl

  pub yes_reads : (rest : List Token) → primary E (t.Key k.Yes ∷ rest) ≡ Some (e.Truth true, rest)
  unfolding primary
  yes_reads rest = refl

  pub no_reads : (rest : List Token) → primary E (t.Key k.No ∷ rest) ≡ Some (e.Truth false, rest)
  unfolding primary
  no_reads rest = refl

  pub result_reads : (rest : List Token) → primary E (t.Key k.Result ∷ rest) ≡ Some (e.Answer, rest)
  unfolding primary
  result_reads rest = refl

  pub name_reads : (x : List ℕ) (rest : List Token) → sees s.Open rest ≡ false → sees s.OpenSquare rest ≡ false → primary E (t.Named x ∷ rest) ≡ Some (e.Named x, rest)
  unfolding primary named
  name_reads x rest h j = rw (h, j) refl

  pub call_reads : (x : List ℕ) (us rest : List Token) (xs : Trees) → sees s.Open us ≡ true → arguments E (drop 1 us) ≡ Some (xs, rest) → primary E (t.Named x ∷ us) ≡ Some (e.Call x xs, rest)
  unfolding primary named
  call_reads x us rest xs h j = rw (h, j) refl

  pub element_reads : (x : List ℕ) (us rest : List Token) (xs : Trees) → sees s.Open us ≡ false → sees s.OpenSquare us ≡ true → indexes E (drop 1 us) ≡ Some (xs, rest) → primary E (t.Named x ∷ us) ≡ Some (e.Element x xs, rest)
  unfolding primary named
  element_reads x us rest xs o h j = rw (o, h, j) refl

  pub no_arguments_read : (rest : List Token) → arguments E (t.Sign s.Close ∷ rest) ≡ Some (no_trees, rest)
  unfolding arguments same_sign
  no_arguments_read rest = refl

  pub arguments_read : (us rest : List Token) (xs : List Tree) → sees s.Close us ≡ false → listing E us ≡ Some (xs, t.Sign s.Close ∷ rest) → arguments E us ≡ Some (listed xs, rest)
  unfolding arguments closed same_sign
  arguments_read us rest xs c h = rw (c, h) refl

  pub indexes_read : (us rest : List Token) (xs : List Tree) → nat_le (length xs) 2 ≡ true → listing E us ≡ Some (xs, t.Sign s.CloseSquare ∷ rest) → indexes E us ≡ Some (listed xs, rest)
  unfolding indexes closed same_sign
  indexes_read us rest xs c h = rw (h, c) refl

  pub bracket_reads : (us rest : List Token) (x : Tree) → E us ≡ Some (x, t.Sign s.Close ∷ rest) → primary E (t.Sign s.Open ∷ us) ≡ Some (x, rest)
  unfolding primary bracketed closed same_sign
  bracket_reads us rest x h = rw h refl

  -- ---- signs and powers

  pub signed_ends : (n : ℕ) (us rest : List Token) (x : Tree) → 0 < n → sees s.Minus us ≡ false → sees s.Plus us ≡ false → primary E us ≡ Some (x, rest) → sees s.Power rest ≡ false → signed_in E n us ≡ Some (x, rest)
  unfolding signed_in part
  signed_ends zero us rest x lt m q h p = absurd (let none : ⊥ = omega arith in none)
  signed_ends (suc n) us rest x lt m q h p = rw (m, q, h, p) refl

  pub signed_power : (n : ℕ) (us vs rest : List Token) (x y : Tree) → 0 < n → sees s.Minus us ≡ false → sees s.Plus us ≡ false → primary E us ≡ Some (x, t.Sign s.Power ∷ vs) → signed_in E (n - 1) vs ≡ Some (y, rest) → signed_in E n us ≡ Some (e.Binary op.Power x y, rest)
  unfolding signed_in part same_sign
  signed_power zero us vs rest x y lt m q h p = absurd (let none : ⊥ = omega arith in none)
  signed_power (suc n) us vs rest x y lt m q h p = let one : n ≡ suc n - 1 = omega arith in let r : signed_in E n vs ≡ Some (y, rest) = ap (λ j. signed_in E j vs) one ∙ p in rw (m, q, h, r) refl

  pub signed_minus : (n : ℕ) (us rest : List Token) (x : Tree) → 0 < n → signed_in E (n - 1) us ≡ Some (x, rest) → signed_in E n (t.Sign s.Minus ∷ us) ≡ Some (e.Minus x, rest)
  unfolding signed_in part same_sign
  signed_minus zero us rest x lt p = absurd (let none : ⊥ = omega arith in none)
  signed_minus (suc n) us rest x lt p = let one : n ≡ suc n - 1 = omega arith in let r : signed_in E n us ≡ Some (x, rest) = ap (λ j. signed_in E j us) one ∙ p in rw r refl

  pub signed_plus : (n : ℕ) (us rest : List Token) (x : Tree) → 0 < n → signed_in E (n - 1) us ≡ Some (x, rest) → signed_in E n (t.Sign s.Plus ∷ us) ≡ Some (e.Plus x, rest)
  unfolding signed_in part same_sign
  signed_plus zero us rest x lt p = absurd (let none : ⊥ = omega arith in none)
  signed_plus (suc n) us rest x lt p = let one : n ≡ suc n - 1 = omega arith in let r : signed_in E n us ≡ Some (x, rest) = ap (λ j. signed_in E j us) one ∙ p in rw r refl

  -- ---- comparisons and negations

  pub compares_none : (us rest : List Token) (x : Tree) → sum E us ≡ Some (x, rest) → relational (first rest) ≡ None → comparison E us ≡ Some (x, rest)
  unfolding comparison
  compares_none us rest x h c = rw (h, c) refl

  pub compares : (us vs rest : List Token) (w : Token) (o : Op) (x y : Tree) → sum E us ≡ Some (x, w ∷ vs) → relational (Some w) ≡ Some o → sum E vs ≡ Some (y, rest) → comparison E us ≡ Some (e.Binary o x y, rest)
  unfolding comparison
  compares us vs rest w o x y h c j = rw (h, c, j) refl

  pub negation_ends : (n : ℕ) (us rest : List Token) (x : Tree) → 0 < n → sees_key k.Not us ≡ false → comparison E us ≡ Some (x, rest) → negation_in E n us ≡ Some (x, rest)
  unfolding negation_in negation_part
  negation_ends zero us rest x lt m h = absurd (let none : ⊥ = omega arith in none)
  negation_ends (suc n) us rest x lt m h = rw (m, h) refl

  pub negation_not : (n : ℕ) (us rest : List Token) (x : Tree) → 0 < n → negation_in E (n - 1) us ≡ Some (x, rest) → negation_in E n (t.Key k.Not ∷ us) ≡ Some (e.Not x, rest)
  unfolding negation_in negation_part same_key
  negation_not zero us rest x lt p = absurd (let none : ⊥ = omega arith in none)
  negation_not (suc n) us rest x lt p = let one : n ≡ suc n - 1 = omega arith in let r : negation_in E n us ≡ Some (x, rest) = ap (λ j. negation_in E j us) one ∙ p in rw r refl

-- ---- operators of one level

module _ (ops : Option Token → Option Op) (operand : List Token → Outcome Tree) where
  pub chain_begins : (us rest : List Token) (x : Tree) → operand us ≡ Some (x, rest) → chain ops operand us ≡ chain_from ops operand (length rest) x rest
  unfolding chain
  chain_begins us rest x h = rw h refl

  pub chain_ends : (m : ℕ) (x : Tree) (rest : List Token) → ops (first rest) ≡ None → chain_from ops operand m x rest ≡ Some (x, rest)
  unfolding chain_from
  chain_ends zero x rest h = refl
  chain_ends (suc m) x rest h = rw h refl

  pub chain_goes_on : (m : ℕ) (w : Token) (o : Op) (x y : Tree) (vs rest : List Token) → ops (Some w) ≡ Some o → operand vs ≡ Some (y, rest) → 0 < m → chain_from ops operand m x (w ∷ vs) ≡ chain_from ops operand (m - 1) (e.Binary o x y) rest
  unfolding chain_from
  chain_goes_on zero w o x y vs rest h j lt = absurd (let none : ⊥ = omega arith in none)
  chain_goes_on (suc m) w o x y vs rest h j lt = let one : m ≡ suc m - 1 = omega arith in rw (h, j) (ap (λ i. chain_from ops operand i (e.Binary o x y) rest) one)
