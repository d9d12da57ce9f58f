-- What is an expression is read as one.
use Rattle.std.proofs.Common.{◌≡◌, ℕ, zero, suc, ◌+◌, ◌-◌, ◌≤◌, nat_le, true, false, List, [], ◌∷◌, ◌++◌, length, drop, Option, Some, None, ap, ◌∙◌, refl, arith, append_assoc, length-append}
use Rattle.kumir_tree.specs.Tree as e
use Rattle.kumir_tree.specs.Tree.{Tree, Trees, no_trees, ◌then◌, count}
use Rattle.kumir_tree.specs.Seen.{listed}
use Rattle.kumir_tree.specs.declared.kind.Op.{Op}
use Rattle.kumir_tree.specs.declared.kind.Op.TheVariants as op
use Rattle.kumir_tree.specs.declared.token.Token.{Token}
use Rattle.kumir_tree.specs.declared.token.Token.TheVariants as t
use Rattle.kumir_tree.specs.declared.token.Sign.TheVariants as s
use Rattle.kumir_tree.specs.declared.token.Key.TheVariants as k
use Rattle.expr_forms.specs.Grammar as is
use Rattle.expr_forms.specs.Grammar.{Level, Disjunction, Conjunction, Negation, Comparison, Sum, Product, Signed, Power, Primary, relation_of, IndexesFit, Reads, ReadsArguments, ReadsIndexes, ReadsAll}
use Rattle.expr_forms.specs.Looks.{Outcome, first, sees, same_sign, same_key}
use Rattle.expr_forms.specs.Reading.{disjunctive, conjunctive, relational, additive, multiplicative, listed_from, arguments, indexes, primary, signed_in, signed, chain_from, chain, product, sum, comparison, negation_in, negation, conjunction, disjunction, expr_in, expression}
use Rattle.expr_forms.proofs.Begins.{Head, begins, begins_all, some_tokens, sees_other, sees_other_key, not_close}
use Rattle.expr_forms.proofs.Steps.{listed_ends, listed_goes_on, number_reads, yes_reads, no_reads, result_reads, name_reads, call_reads, element_reads, no_arguments_read, arguments_read, indexes_read, bracket_reads, signed_ends, signed_power, signed_minus, signed_plus, compares_none, compares, negation_ends, negation_not, chain_begins, chain_ends, chain_goes_on}

-- ---- where an expression of a level ends: no longer one begins where the rest begins so

abbrev pub StopsPrimary : List Token → Type 0
StopsPrimary rest = (sees s.Open rest ≡ false) × (sees s.OpenSquare rest ≡ false)

abbrev pub StopsSigned : List Token → Type 0
StopsSigned rest = StopsPrimary rest × (sees s.Power rest ≡ false)

abbrev pub StopsProduct : List Token → Type 0
StopsProduct rest = StopsSigned rest × (multiplicative (first rest) ≡ None)

abbrev pub StopsSum : List Token → Type 0
StopsSum rest = StopsProduct rest × (additive (first rest) ≡ None)

abbrev pub StopsComparison : List Token → Type 0
StopsComparison rest = StopsSum rest × (relational (first rest) ≡ None)

abbrev pub StopsConjunction : List Token → Type 0
StopsConjunction rest = StopsComparison rest × (conjunctive (first rest) ≡ None)

abbrev pub Stops : List Token → Type 0
Stops rest = StopsConjunction rest × (disjunctive (first rest) ≡ None)

-- ---- tokens at which every expression ends

pub stops_at_end : Stops []
stops_at_end = (((((((refl, refl), refl), refl), refl), refl), refl), refl)

pub stops_at_close : (rest : List Token) → Stops (t.Sign s.Close ∷ rest)
unfolding same_sign
stops_at_close rest = (((((((refl, refl), refl), refl), refl), refl), refl), refl)

pub stops_at_close_square : (rest : List Token) → Stops (t.Sign s.CloseSquare ∷ rest)
unfolding same_sign
stops_at_close_square rest = (((((((refl, refl), refl), refl), refl), refl), refl), refl)

pub stops_at_comma : (rest : List Token) → Stops (t.Sign s.Comma ∷ rest)
unfolding same_sign
stops_at_comma rest = (((((((refl, refl), refl), refl), refl), refl), refl), refl)

pub stops_at_colon : (rest : List Token) → Stops (t.Sign s.Colon ∷ rest)
unfolding same_sign
stops_at_colon rest = (((((((refl, refl), refl), refl), refl), refl), refl), refl)

pub stops_at_times : (rest : List Token) → Stops (t.Key k.Times ∷ rest)
stops_at_times rest = (((((((refl, refl), refl), refl), refl), refl), refl), refl)

pub stops_at_to : (rest : List Token) → Stops (t.Key k.To ∷ rest)
stops_at_to rest = (((((((refl, refl), refl), refl), refl), refl), refl), refl)

pub stops_at_step : (rest : List Token) → Stops (t.Key k.Step ∷ rest)
stops_at_step rest = (((((((refl, refl), refl), refl), refl), refl), refl), refl)

-- a sum ends at a relation
stops_at_relation : (w : Token) (o : Op) → relation_of w ≡ Some o → (rest : List Token) → StopsSum (w ∷ rest)
unfolding same_sign
stops_at_relation (t.Sign s.Equal) o h rest = ((((refl, refl), refl), refl), refl)
stops_at_relation (t.Sign s.NotEqual) o h rest = ((((refl, refl), refl), refl), refl)
stops_at_relation (t.Sign s.Less) o h rest = ((((refl, refl), refl), refl), refl)
stops_at_relation (t.Sign s.Greater) o h rest = ((((refl, refl), refl), refl), refl)
stops_at_relation (t.Sign s.LessOrEqual) o h rest = ((((refl, refl), refl), refl), refl)
stops_at_relation (t.Sign s.GreaterOrEqual) o h rest = ((((refl, refl), refl), refl), refl)
stops_at_relation w o h rest = absurd (let none : ⊥ = cc in none)

count_listed : (xs : List Tree) → count (listed xs) ≡ length xs
count_listed [] = refl
count_listed (x ∷ xs) = omega (arith, count_listed xs)

-- ---- whatever follows, the tokens are read; of a chain the reading so far goes on

abbrev Complete : Level → List Token → Tree → Type 0
Complete Primary ts x = (d : ℕ) → length ts ≤ d → (rest : List Token) → StopsPrimary rest → primary (expr_in d) (ts ++ rest) ≡ Some (x, rest)
Complete Power ts x = (d n : ℕ) → length ts ≤ d → length ts ≤ n → (rest : List Token) → StopsSigned rest → signed_in (expr_in d) n (ts ++ rest) ≡ Some (x, rest)
Complete Signed ts x = (d n : ℕ) → length ts ≤ d → length ts ≤ n → (rest : List Token) → StopsSigned rest → signed_in (expr_in d) n (ts ++ rest) ≡ Some (x, rest)
Complete Product ts x = (d : ℕ) → length ts ≤ d → (rest : List Token) → StopsSigned rest →
    (m : ℕ) × (length rest ≤ m) × (product (expr_in d) (ts ++ rest) ≡ chain_from multiplicative (signed (expr_in d)) m x rest)
Complete Sum ts x = (d : ℕ) → length ts ≤ d → (rest : List Token) → StopsProduct rest →
    (m : ℕ) × (length rest ≤ m) × (sum (expr_in d) (ts ++ rest) ≡ chain_from additive (product (expr_in d)) m x rest)
Complete Comparison ts x = (d : ℕ) → length ts ≤ d → (rest : List Token) → StopsComparison rest → comparison (expr_in d) (ts ++ rest) ≡ Some (x, rest)
Complete Negation ts x = (d n : ℕ) → length ts ≤ d → length ts ≤ n → (rest : List Token) → StopsComparison rest → negation_in (expr_in d) n (ts ++ rest) ≡ Some (x, rest)
Complete Conjunction ts x = (d : ℕ) → length ts ≤ d → (rest : List Token) → StopsComparison rest →
    (m : ℕ) × (length rest ≤ m) × (conjunction (expr_in d) (ts ++ rest) ≡ chain_from conjunctive (negation (expr_in d)) m x rest)
Complete Disjunction ts x = (d : ℕ) → length ts ≤ d → (rest : List Token) → StopsConjunction rest →
    (m : ℕ) × (length rest ≤ m) × (disjunction (expr_in d) (ts ++ rest) ≡ chain_from disjunctive (conjunction (expr_in d)) m x rest)

pub record CompleteArguments (ts : List Token) (xs : Trees) (d : ℕ) (rest : List Token) : Type 0 where
  pub opens : sees s.Open (ts ++ rest) ≡ true
  pub reads : arguments (expr_in d) (drop 1 (ts ++ rest)) ≡ Some (xs, rest)

pub record CompleteIndexes (ts : List Token) (xs : Trees) (d : ℕ) (rest : List Token) : Type 0 where
  pub no_bracket : sees s.Open (ts ++ rest) ≡ false
  pub opens : sees s.OpenSquare (ts ++ rest) ≡ true
  pub reads : indexes (expr_in d) (drop 1 (ts ++ rest)) ≡ Some (xs, rest)

record CompleteAll (ts : List Token) (xs : Trees) (d n : ℕ) (found : List Tree) (rest : List Token) : Type 0 where
  items : List Tree
  same : listed items ≡ xs
  reads : listed_from (expr_in d) n found (ts ++ rest) ≡ Some (found ++ items, rest)

-- ---- whole levels

signed_reads : (ts : List Token) (x : Tree) → Complete Signed ts x → (d : ℕ) → length ts ≤ d → (rest : List Token) → StopsSigned rest → signed (expr_in d) (ts ++ rest) ≡ Some (x, rest)
unfolding signed
signed_reads ts x c d le rest h = c d (length (ts ++ rest)) le (omega (arith, length-append ts rest)) rest h

product_reads : (ts : List Token) (x : Tree) → Complete Product ts x → (d : ℕ) → length ts ≤ d → (rest : List Token) → StopsProduct rest → product (expr_in d) (ts ++ rest) ≡ Some (x, rest)
product_reads ts x c d le rest h = let r = c d le rest h.0 in r.2 ∙ chain_ends multiplicative (signed (expr_in d)) r.0 x rest h.1

sum_reads : (ts : List Token) (x : Tree) → Complete Sum ts x → (d : ℕ) → length ts ≤ d → (rest : List Token) → StopsSum rest → sum (expr_in d) (ts ++ rest) ≡ Some (x, rest)
sum_reads ts x c d le rest h = let r = c d le rest h.0 in r.2 ∙ chain_ends additive (product (expr_in d)) r.0 x rest h.1

negation_reads : (ts : List Token) (x : Tree) → Complete Negation ts x → (d : ℕ) → length ts ≤ d → (rest : List Token) → StopsComparison rest → negation (expr_in d) (ts ++ rest) ≡ Some (x, rest)
unfolding negation
negation_reads ts x c d le rest h = c d (length (ts ++ rest)) le (omega (arith, length-append ts rest)) rest h

conjunction_reads : (ts : List Token) (x : Tree) → Complete Conjunction ts x → (d : ℕ) → length ts ≤ d → (rest : List Token) → StopsConjunction rest → conjunction (expr_in d) (ts ++ rest) ≡ Some (x, rest)
conjunction_reads ts x c d le rest h = let r = c d le rest h.0 in r.2 ∙ chain_ends conjunctive (negation (expr_in d)) r.0 x rest h.1

expr_reads : (ts : List Token) (x : Tree) → Complete Disjunction ts x → (d : ℕ) → suc (length ts) ≤ d → (rest : List Token) → Stops rest → expr_in d (ts ++ rest) ≡ Some (x, rest)
unfolding expr_in
expr_reads ts x c zero le rest h = absurd (let none : ⊥ = omega arith in none)
expr_reads ts x c (suc d) le rest h = let r = c d (omega arith) rest h.0 in r.2 ∙ chain_ends disjunctive (conjunction (expr_in d)) r.0 x rest h.1

-- one more operand of a chain
module _ (ops : Option Token → Option Op) (operand : List Token → Outcome Tree) where
  chain_one : (us rest : List Token) (x : Tree) → operand us ≡ Some (x, rest) → (m : ℕ) × (length rest ≤ m) × (chain ops operand us ≡ chain_from ops operand m x rest)
  chain_one us rest x h = (length rest, omega arith, chain_begins ops operand us rest x h)

  chain_more : (ts us rest : List Token) (w : Token) (o : Op) (x y : Tree) → ops (Some w) ≡ Some o
      → (m : ℕ) × (length (w ∷ (us ++ rest)) ≤ m) × (chain ops operand (ts ++ w ∷ (us ++ rest)) ≡ chain_from ops operand m x (w ∷ (us ++ rest)))
      → operand (us ++ rest) ≡ Some (y, rest)
      → (m : ℕ) × (length rest ≤ m) × (chain ops operand ((ts ++ w ∷ us) ++ rest) ≡ chain_from ops operand m (e.Binary o x y) rest)
  chain_more ts us rest w o x y is c h =
      let more = chain_goes_on ops operand c.0 w o x y (us ++ rest) rest is h (omega (arith, c.1)) in
      (c.0 - 1, omega (arith, c.1, length-append us rest), ap (chain ops operand) (append_assoc ts (w ∷ us) rest) ∙ c.2 ∙ more)

few_listed : (xs : Trees) (ys : List Tree) → listed ys ≡ xs → count xs ≤ 2 → nat_le (length ys) 2 ≡ true
few_listed xs ys same few =
    let n : count (listed ys) ≡ length ys = count_listed ys in
    let m : count (listed ys) ≡ count xs = ap count same in
    grind arith

mutual
  unfolding same_sign same_key

  complete : {r : Level} {ts : List Token} {x : Tree} → Reads r ts x → Complete r ts x
  complete (is.conjunction {ts} {x} a) = λ d le rest h. chain_one disjunctive (conjunction (expr_in d)) (ts ++ rest) rest x (conjunction_reads ts x (complete a) d le rest h)
  complete (is.or {ts} {us} {x} {y} a b) = λ d le rest h.
      let fits = length-append ts (t.Key k.Or ∷ us) in
      chain_more disjunctive (conjunction (expr_in d)) ts us rest (t.Key k.Or) op.Or x y refl
      (complete a d (omega (arith, fits)) (t.Key k.Or ∷ (us ++ rest)) ((((((refl, refl), refl), refl), refl), refl), refl))
      (conjunction_reads us y (complete b) d (omega (arith, fits)) rest h)
  complete (is.negation {ts} {x} a) = λ d le rest h. chain_one conjunctive (negation (expr_in d)) (ts ++ rest) rest x (negation_reads ts x (complete a) d le rest h)
  complete (is.and {ts} {us} {x} {y} a b) = λ d le rest h.
      let fits = length-append ts (t.Key k.And ∷ us) in
      chain_more conjunctive (negation (expr_in d)) ts us rest (t.Key k.And) op.And x y refl
      (complete a d (omega (arith, fits)) (t.Key k.And ∷ (us ++ rest)) (((((refl, refl), refl), refl), refl), refl))
      (negation_reads us y (complete b) d (omega (arith, fits)) rest h)
  complete (is.comparison {ts} {x} a) = λ d n le ln rest h.
      let b = begins a in
      negation_ends (expr_in d) n (ts ++ rest) rest x (omega (arith, some_tokens (Head Comparison) ts b)) (sees_other_key (Head Comparison) ts b k.Not rest b.fits.1) (complete a d le rest h)
  complete (is.not {ts} {x} a) = λ d n le ln rest h. negation_not (expr_in d) n (ts ++ rest) rest x (omega arith) (complete a d (n - 1) (omega arith) (omega arith) rest h)
  complete (is.sum {ts} {x} a) = λ d le rest h. compares_none (expr_in d) (ts ++ rest) rest x (sum_reads ts x (complete a) d le rest h.0) h.1
  complete (is.relation {ts} {us} {o} {x} {y} w r a b) = λ d le rest h.
      let fits = length-append ts (w ∷ us) in
      ap (comparison (expr_in d)) (append_assoc ts (w ∷ us) rest)
      ∙ compares (expr_in d) (ts ++ w ∷ (us ++ rest)) (us ++ rest) rest w o x y
      (sum_reads ts x (complete a) d (omega (arith, fits)) (w ∷ (us ++ rest)) (stops_at_relation w o r (us ++ rest))) r
      (sum_reads us y (complete b) d (omega (arith, fits)) rest h.0)
  complete (is.product {ts} {x} a) = λ d le rest h. chain_one additive (product (expr_in d)) (ts ++ rest) rest x (product_reads ts x (complete a) d le rest h)
  complete (is.plus {ts} {us} {x} {y} a b) = λ d le rest h.
      let fits = length-append ts (t.Sign s.Plus ∷ us) in
      chain_more additive (product (expr_in d)) ts us rest (t.Sign s.Plus) op.Plus x y refl
      (complete a d (omega (arith, fits)) (t.Sign s.Plus ∷ (us ++ rest)) (((refl, refl), refl), refl))
      (product_reads us y (complete b) d (omega (arith, fits)) rest h)
  complete (is.minus {ts} {us} {x} {y} a b) = λ d le rest h.
      let fits = length-append ts (t.Sign s.Minus ∷ us) in
      chain_more additive (product (expr_in d)) ts us rest (t.Sign s.Minus) op.Minus x y refl
      (complete a d (omega (arith, fits)) (t.Sign s.Minus ∷ (us ++ rest)) (((refl, refl), refl), refl))
      (product_reads us y (complete b) d (omega (arith, fits)) rest h)
  complete (is.signed {ts} {x} a) = λ d le rest h. chain_one multiplicative (signed (expr_in d)) (ts ++ rest) rest x (signed_reads ts x (complete a) d le rest h)
  complete (is.times {ts} {us} {x} {y} a b) = λ d le rest h.
      let fits = length-append ts (t.Sign s.Times ∷ us) in
      chain_more multiplicative (signed (expr_in d)) ts us rest (t.Sign s.Times) op.Times x y refl
      (complete a d (omega (arith, fits)) (t.Sign s.Times ∷ (us ++ rest)) ((refl, refl), refl))
      (signed_reads us y (complete b) d (omega (arith, fits)) rest h)
  complete (is.power a) = complete a
  complete (is.unary_minus {ts} {x} a) = λ d n le ln rest h. signed_minus (expr_in d) n (ts ++ rest) rest x (omega arith) (complete a d (n - 1) (omega arith) (omega arith) rest h)
  complete (is.unary_plus {ts} {x} a) = λ d n le ln rest h. signed_plus (expr_in d) n (ts ++ rest) rest x (omega arith) (complete a d (n - 1) (omega arith) (omega arith) rest h)
  complete (is.primary {ts} {x} a) = λ d n le ln rest h.
      let b = begins a in
      signed_ends (expr_in d) n (ts ++ rest) rest x (omega (arith, some_tokens (Head Primary) ts b)) (sees_other (Head Primary) ts b s.Minus rest b.fits.2) (sees_other (Head Primary) ts b s.Plus rest b.fits.3) (complete a d le rest h.0) h.1
  complete (is.raised {ts} {us} {x} {y} a c) = λ d n le ln rest h.
      let b = begins a in
      let fits = length-append ts (t.Sign s.Power ∷ us) in
      let more = t.Sign s.Power ∷ (us ++ rest) in
      ap (signed_in (expr_in d) n) (append_assoc ts (t.Sign s.Power ∷ us) rest)
      ∙ signed_power (expr_in d) n (ts ++ more) (us ++ rest) rest x y (omega (arith, fits)) (sees_other (Head Primary) ts b s.Minus more b.fits.2) (sees_other (Head Primary) ts b s.Plus more b.fits.3)
      (complete a d (omega (arith, fits)) more (refl, refl))
      (complete c d (n - 1) (omega (arith, fits)) (omega (arith, fits)) rest h)
  complete (is.number {n}) = λ d le rest h. number_reads (expr_in d) n rest
  complete is.yes_word = λ d le rest h. yes_reads (expr_in d) rest
  complete is.no_word = λ d le rest h. no_reads (expr_in d) rest
  complete is.result = λ d le rest h. result_reads (expr_in d) rest
  complete (is.named {x}) = λ d le rest h. name_reads (expr_in d) x rest h.0 h.1
  complete (is.call {x} {ts} {xs} a) = λ d le rest h.
      let c = complete_arguments a d (omega arith) rest in
      call_reads (expr_in d) x (ts ++ rest) rest xs c.opens c.reads
  complete (is.element {x} {ts} {xs} a) = λ d le rest h.
      let c = complete_indexes a d (omega arith) rest in
      element_reads (expr_in d) x (ts ++ rest) rest xs c.no_bracket c.opens c.reads
  complete (is.brackets {ts} {x} a) = λ d le rest h.
      let fits = length-append (t.Sign s.Open ∷ ts) (t.Sign s.Close ∷ []) in
      bracket_reads (expr_in d) ((ts ++ t.Sign s.Close ∷ []) ++ rest) rest x
      (ap (expr_in d) (append_assoc ts (t.Sign s.Close ∷ []) rest) ∙ expr_reads ts x (complete a) d (omega (arith, fits)) (t.Sign s.Close ∷ rest) (stops_at_close rest))

  pub complete_arguments : {ts : List Token} {xs : Trees} → ReadsArguments ts xs → (d : ℕ) → length ts ≤ d → (rest : List Token) → CompleteArguments ts xs d rest
  complete_arguments is.no_arguments d le rest = record { opens = refl; reads = no_arguments_read (expr_in d) rest }
  complete_arguments (is.arguments {ts} {xs} a) d le rest =
      let fits = length-append (t.Sign s.Open ∷ ts) (t.Sign s.Close ∷ []) in
      let us = ts ++ t.Sign s.Close ∷ rest in
      let b = begins_all a in
      let c = complete_all a d (length us) (omega (arith, fits)) (omega (arith, length-append ts (t.Sign s.Close ∷ rest))) [] (t.Sign s.Close ∷ rest) refl (stops_at_close rest) in
      record {
        opens = refl;
        reads = ap (arguments (expr_in d)) (append_assoc ts (t.Sign s.Close ∷ []) rest)
            ∙ arguments_read (expr_in d) us rest c.items (sees_other (Head Disjunction) ts b s.Close (t.Sign s.Close ∷ rest) (not_close b.head b.fits)) c.reads
            ∙ ap (λ l. Some (l, rest)) c.same;
      }

  pub complete_indexes : {ts : List Token} {xs : Trees} → ReadsIndexes ts xs → (d : ℕ) → length ts ≤ d → (rest : List Token) → CompleteIndexes ts xs d rest
  complete_indexes (is.indexes {ts} {xs} a few) d le rest =
      let fits = length-append (t.Sign s.OpenSquare ∷ ts) (t.Sign s.CloseSquare ∷ []) in
      let us = ts ++ t.Sign s.CloseSquare ∷ rest in
      let c = complete_all a d (length us) (omega (arith, fits)) (omega (arith, length-append ts (t.Sign s.CloseSquare ∷ rest))) [] (t.Sign s.CloseSquare ∷ rest) refl (stops_at_close_square rest) in
      record {
        no_bracket = refl;
        opens = refl;
        reads = ap (indexes (expr_in d)) (append_assoc ts (t.Sign s.CloseSquare ∷ []) rest)
            ∙ indexes_read (expr_in d) us rest c.items (few_listed xs c.items c.same few) c.reads
            ∙ ap (λ l. Some (l, rest)) c.same;
      }

  complete_all : {ts : List Token} {xs : Trees} → ReadsAll ts xs → (d n : ℕ) → suc (length ts) ≤ d → length ts ≤ n → (found : List Tree) (rest : List Token) → sees s.Comma rest ≡ false → Stops rest → CompleteAll ts xs d n found rest
  complete_all (is.last {ts} {x} a) d n le ln found rest c h = record {
    items = x ∷ [];
    same = refl;
    reads = listed_ends Tree (expr_in d) n found (ts ++ rest) rest x (omega (arith, some_tokens (Head Disjunction) ts (begins a))) (expr_reads ts x (complete a) d le rest h) c;
  }
  complete_all (is.next {ts} {us} {x} {xs} a b) d n le ln found rest c h =
      let fits = length-append ts (t.Sign s.Comma ∷ us) in
      let vs = us ++ rest in
      let more = complete_all b d (n - 1) (omega (arith, fits)) (omega (arith, fits)) (found ++ x ∷ []) rest c h in
      record {
        items = x ∷ more.items;
        same = ap (λ l. x then l) more.same;
        reads = ap (listed_from (expr_in d) n found) (append_assoc ts (t.Sign s.Comma ∷ us) rest)
            ∙ listed_goes_on Tree (expr_in d) n found (ts ++ t.Sign s.Comma ∷ vs) vs x (omega (arith, fits)) (expr_reads ts x (complete a) d (omega (arith, fits)) (t.Sign s.Comma ∷ vs) (stops_at_comma vs))
            ∙ more.reads ∙ ap (λ l. Some (l, rest)) (append_assoc found (x ∷ []) more.items);
      }

-- ---- at the front of any tokens

fuel : (ts rest : List Token) → suc (length ts) ≤ length (ts ++ rest) + 1
fuel ts rest = omega (arith, length-append ts rest)

pub expression_complete : {ts : List Token} {x : Tree} → Reads Disjunction ts x → (rest : List Token) → Stops rest → expression (ts ++ rest) ≡ Some (x, rest)
unfolding expression
expression_complete {ts} {x} a rest h = expr_reads ts x (complete a) (length (ts ++ rest) + 1) (fuel ts rest) rest h
