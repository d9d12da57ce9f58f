-- What is read as an expression is one.
use Rattle.std.proofs.Common.{◌≡◌, ℕ, zero, suc, ◌+◌, ◌≤◌, nat_le, true, false, ⊎_elim, List, [], ◌∷◌, ◌++◌, length, drop, Option, Some, None, ap, sym, ◌∙◌, subst, refl, arith, append_assoc}
use Rattle.std.specs.Prelude.{if◌then◌else◌}
use Rattle.kumir_tree.specs.Tree as e
use Rattle.kumir_tree.specs.Tree.{Tree, Trees, no_trees, ◌then◌, count}
use Rattle.kumir_tree.specs.Seen.{listed}
use Rattle.kumir_tree.specs.declared.kind.Op.{Op}
use Rattle.kumir_tree.specs.declared.token.Token.{Token}
use Rattle.kumir_tree.specs.declared.token.Token.TheVariants as t
use Rattle.kumir_tree.specs.declared.token.Sign.TheVariants as s
use Rattle.kumir_tree.specs.declared.token.Key.TheVariants as k
use Rattle.expr_forms.specs.Grammar as is
use Rattle.expr_forms.specs.Grammar.{Level, Disjunction, Conjunction, Negation, Comparison, Sum, Product, Signed, Power, Primary, relation_of, IndexesFit, Reads, ReadsArguments, ReadsIndexes, ReadsAll}
use Rattle.expr_forms.specs.Lists as list
use Rattle.expr_forms.specs.Lists.{Listed}
use Rattle.expr_forms.specs.Looks.{Outcome, ◌>>=◌, mapped, first, sees, sees_key}
use Rattle.expr_forms.specs.Reading.{disjunctive, conjunctive, relational, additive, multiplicative, Waiting, WaitsPlus, WaitsMinus, WaitsNot, WaitsPower, wrap_one, given, Part, Waits, Ends, listing, closed, arguments, few_indexes, indexes, bracketed, called, indexed, named, primary, raised_or_last, part, gone_on, signed_in, signed, joined, chain_from, chain, product, sum, comparison, negation_part, negation_in, negation, conjunction, expr_in, expression}
use Rattle.expr_forms.proofs.Cases.{bind_ok, chosen, none_is, some_is, first_is, rest_is, seen, seen_key, closed_is, mapped_is, Found, listing_sound}

-- ---- lists

all_listed : {ts : List Token} {xs : List Tree} → Listed (Reads Disjunction) ts xs → ReadsAll ts (listed xs)
all_listed (list.last a) = is.last a
all_listed (list.next a b) = is.next a (all_listed b)

count_listed : (xs : List Tree) → count (listed xs) ≡ length xs
count_listed [] = refl
count_listed (x ∷ xs) = omega (arith, count_listed xs)

few_indexes_is : (E : List Token → Outcome Tree) (o : Outcome (List Tree)) (xs : Trees) (rest : List Token) → few_indexes E o ≡ Some (xs, rest) → (ys : List Tree) × (o ≡ Some (ys, rest)) × (listed ys ≡ xs) × (nat_le (length ys) 2 ≡ true)
few_indexes_is E None xs rest h = none_is h
few_indexes_is E (Some r) xs rest h =
    ⊎_elim
    (λ (c : (nat_le (length r.0) 2 ≡ true) × (Some (listed r.0, r.1) ≡ Some (xs, rest))). (r.0, ap (λ l. Some (r.0, l)) (rest_is c.1), first_is c.1, c.0))
    (λ (c : (nat_le (length r.0) 2 ≡ false) × (None ≡ Some (xs, rest))). none_is c.1)
    (chosen (nat_le (length r.0) 2) (Some (listed r.0, r.1)) None (Some (xs, rest)) h)

-- ---- brackets and names

-- what a part of a chain shows
abbrev FoundPart : Part → List Token → List Token → Type 0
FoundPart (Waits WaitsMinus) ts rest = ts ≡ t.Sign s.Minus ∷ rest
FoundPart (Waits WaitsPlus) ts rest = ts ≡ t.Sign s.Plus ∷ rest
FoundPart (Waits WaitsNot) ts rest = ⊥
FoundPart (Waits (WaitsPower x)) ts rest = (front : List Token) × (ts ≡ front ++ t.Sign s.Power ∷ rest) × Reads Primary front x
FoundPart (Ends x) ts rest = Found (Reads Primary) ts x rest

-- ---- what waits for an operand

given_is : (w : Waiting) (o : Outcome Tree) (x : Tree) (rest : List Token) → given w o ≡ Some (x, rest) → (y : Tree) × (o ≡ Some (y, rest)) × (wrap_one w y ≡ x)
given_is w None x rest h = none_is h
given_is w (Some r) x rest h = (r.0, ap (λ l. Some (r.0, l)) (rest_is h), first_is h)

wrapped_found : (w : Waiting) (ts us : List Token) (y : Tree) (rest : List Token) → FoundPart (Waits w) ts us → Found (Reads Signed) us y rest → Found (Reads Signed) ts (wrap_one w y) rest
wrapped_found WaitsMinus ts us y rest h f = record { front = t.Sign s.Minus ∷ f.front; split = h ∙ ap (λ l. t.Sign s.Minus ∷ l) f.split; reads = is.unary_minus f.reads }
wrapped_found WaitsPlus ts us y rest h f = record { front = t.Sign s.Plus ∷ f.front; split = h ∙ ap (λ l. t.Sign s.Plus ∷ l) f.split; reads = is.unary_plus f.reads }
wrapped_found WaitsNot ts us y rest h f = absurd h
wrapped_found (WaitsPower x) ts us y rest h f = record {
  front = h.0 ++ t.Sign s.Power ∷ f.front;
  split = h.1 ∙ ap (λ l. h.0 ++ t.Sign s.Power ∷ l) f.split ∙ sym (append_assoc h.0 (t.Sign s.Power ∷ f.front) rest);
  reads = is.power (is.raised h.2 f.reads);
}

module _ (E : List Token → Outcome Tree) (H : (ts : List Token) (x : Tree) (rest : List Token) → E ts ≡ Some (x, rest) → Found (Reads Disjunction) ts x rest) where
  pub arguments_sound : (us : List Token) (xs : Trees) (rest : List Token) → arguments E us ≡ Some (xs, rest) → Found ReadsArguments (t.Sign s.Open ∷ us) xs rest
  unfolding arguments
  arguments_sound us xs rest h =
      ⊎_elim
      (λ (c : (sees s.Close us ≡ true) × (Some (no_trees, drop 1 us) ≡ Some (xs, rest))). record {
        front = t.Sign s.Open ∷ t.Sign s.Close ∷ [];
        split = ap (λ l. t.Sign s.Open ∷ l) (seen s.Close us c.0 ∙ ap (λ l. t.Sign s.Close ∷ l) (rest_is c.1));
        reads = subst (ReadsArguments (t.Sign s.Open ∷ t.Sign s.Close ∷ [])) (first_is c.1) is.no_arguments;
      })
      (λ (c : (sees s.Close us ≡ false) × (mapped listed (closed s.Close (listing E us)) ≡ Some (xs, rest))).
      let a = mapped_is listed (closed s.Close (listing E us)) xs rest c.1 in
      let f = listing_sound Tree (Reads Disjunction) E H us a.0 (t.Sign s.Close ∷ rest) (closed_is s.Close (listing E us) a.0 rest a.1) in
      record {
        front = t.Sign s.Open ∷ (f.front ++ t.Sign s.Close ∷ []);
        split = ap (λ l. t.Sign s.Open ∷ l) (f.split ∙ sym (append_assoc f.front (t.Sign s.Close ∷ []) rest));
        reads = subst (ReadsArguments (t.Sign s.Open ∷ (f.front ++ t.Sign s.Close ∷ []))) a.2 (is.arguments (all_listed f.reads));
      })
      (chosen (sees s.Close us) (Some (no_trees, drop 1 us)) (mapped listed (closed s.Close (listing E us))) (Some (xs, rest)) h)

  pub indexes_sound : (us : List Token) (xs : Trees) (rest : List Token) → indexes E us ≡ Some (xs, rest) → Found ReadsIndexes (t.Sign s.OpenSquare ∷ us) xs rest
  unfolding indexes
  indexes_sound us xs rest h =
      let a = few_indexes_is E (closed s.CloseSquare (listing E us)) xs rest h in
      let f = listing_sound Tree (Reads Disjunction) E H us a.0 (t.Sign s.CloseSquare ∷ rest) (closed_is s.CloseSquare (listing E us) a.0 rest a.1) in
      let few : count (listed a.0) ≤ 2 = (let l = count_listed a.0 in let n = a.3 in grind arith) in
      record {
        front = t.Sign s.OpenSquare ∷ (f.front ++ t.Sign s.CloseSquare ∷ []);
        split = ap (λ l. t.Sign s.OpenSquare ∷ l) (f.split ∙ sym (append_assoc f.front (t.Sign s.CloseSquare ∷ []) rest));
        reads = subst (ReadsIndexes (t.Sign s.OpenSquare ∷ (f.front ++ t.Sign s.CloseSquare ∷ []))) a.2 (is.indexes (all_listed f.reads) few);
      }

  called_sound : (x : List ℕ) (us : List Token) (y : Tree) (rest : List Token) → called E x us ≡ Some (y, rest) → Found (Reads Primary) (t.Named x ∷ t.Sign s.Open ∷ us) y rest
  called_sound x us y rest h =
      let b = bind_ok (arguments E us) (λ xs. Some (e.Call x xs.0, xs.1)) (y, rest) h in
      let f = arguments_sound us b.0.0 b.0.1 b.1 in
      record {
        front = t.Named x ∷ f.front;
        split = ap (λ l. t.Named x ∷ l) (f.split ∙ ap (λ l. f.front ++ l) (rest_is b.2));
        reads = subst (Reads Primary (t.Named x ∷ f.front)) (first_is b.2) (is.call f.reads);
      }

  indexed_sound : (x : List ℕ) (us : List Token) (y : Tree) (rest : List Token) → indexed E x us ≡ Some (y, rest) → Found (Reads Primary) (t.Named x ∷ t.Sign s.OpenSquare ∷ us) y rest
  indexed_sound x us y rest h =
      let b = bind_ok (indexes E us) (λ xs. Some (e.Element x xs.0, xs.1)) (y, rest) h in
      let f = indexes_sound us b.0.0 b.0.1 b.1 in
      record {
        front = t.Named x ∷ f.front;
        split = ap (λ l. t.Named x ∷ l) (f.split ∙ ap (λ l. f.front ++ l) (rest_is b.2));
        reads = subst (Reads Primary (t.Named x ∷ f.front)) (first_is b.2) (is.element f.reads);
      }

  named_sound : (x : List ℕ) (ts : List Token) (y : Tree) (rest : List Token) → named E x ts ≡ Some (y, rest) → Found (Reads Primary) (t.Named x ∷ ts) y rest
  unfolding named
  named_sound x ts y rest h =
      ⊎_elim
      (λ (c : (sees s.Open ts ≡ true) × (called E x (drop 1 ts) ≡ Some (y, rest))). subst (λ l. Found (Reads Primary) (t.Named x ∷ l) y rest) (sym (seen s.Open ts c.0)) (called_sound x (drop 1 ts) y rest c.1))
      (λ (c : (sees s.Open ts ≡ false) × ((if sees s.OpenSquare ts then indexed E x (drop 1 ts) else Some (e.Named x, ts)) ≡ Some (y, rest))).
      ⊎_elim
      (λ (d : (sees s.OpenSquare ts ≡ true) × (indexed E x (drop 1 ts) ≡ Some (y, rest))). subst (λ l. Found (Reads Primary) (t.Named x ∷ l) y rest) (sym (seen s.OpenSquare ts d.0)) (indexed_sound x (drop 1 ts) y rest d.1))
      (λ (d : (sees s.OpenSquare ts ≡ false) × (Some (e.Named x, ts) ≡ Some (y, rest))). record {
        front = t.Named x ∷ [];
        split = ap (λ l. t.Named x ∷ l) (rest_is d.1);
        reads = subst (Reads Primary (t.Named x ∷ [])) (first_is d.1) is.named;
      })
      (chosen (sees s.OpenSquare ts) (indexed E x (drop 1 ts)) (Some (e.Named x, ts)) (Some (y, rest)) c.1))
      (chosen (sees s.Open ts) (called E x (drop 1 ts)) (if sees s.OpenSquare ts then indexed E x (drop 1 ts) else Some (e.Named x, ts)) (Some (y, rest)) h)

  bracketed_sound : (ts : List Token) (y : Tree) (rest : List Token) → bracketed E ts ≡ Some (y, rest) → Found (Reads Primary) (t.Sign s.Open ∷ ts) y rest
  unfolding bracketed
  bracketed_sound ts y rest h =
      let f = H ts y (t.Sign s.Close ∷ rest) (closed_is s.Close (E ts) y rest h) in
      record {
        front = t.Sign s.Open ∷ (f.front ++ t.Sign s.Close ∷ []);
        split = ap (λ l. t.Sign s.Open ∷ l) (f.split ∙ sym (append_assoc f.front (t.Sign s.Close ∷ []) rest));
        reads = is.brackets f.reads;
      }

  -- one token that is an expression
  alone : (w : Token) (x y : Tree) (ts rest : List Token) → Reads Primary (w ∷ []) x → ◌≡◌ {A = Outcome Tree} (Some (x, ts)) (Some (y, rest)) → Found (Reads Primary) (w ∷ ts) y rest
  alone w x y ts rest a h = record { front = w ∷ []; split = ap (λ l. w ∷ l) (rest_is h); reads = subst (Reads Primary (w ∷ [])) (first_is h) a }

  primary_sound : (ts : List Token) (y : Tree) (rest : List Token) → primary E ts ≡ Some (y, rest) → Found (Reads Primary) ts y rest
  unfolding primary
  primary_sound [] y rest h = none_is h
  primary_sound (t.Number n ∷ ts) y rest h = alone (t.Number n) (e.Number n) y ts rest is.number h
  primary_sound (t.Named x ∷ ts) y rest h = named_sound x ts y rest h
  primary_sound (t.Literal x ∷ ts) y rest h = none_is h
  primary_sound (t.Sign s.Open ∷ ts) y rest h = bracketed_sound ts y rest h
  primary_sound (t.Sign w ∷ ts) y rest h = none_is h
  primary_sound (t.Key k.Yes ∷ ts) y rest h = alone (t.Key k.Yes) (e.Truth true) y ts rest is.yes_word h
  primary_sound (t.Key k.No ∷ ts) y rest h = alone (t.Key k.No) (e.Truth false) y ts rest is.no_word h
  primary_sound (t.Key k.Result ∷ ts) y rest h = alone (t.Key k.Result) e.Answer y ts rest is.result h
  primary_sound (t.Key w ∷ ts) y rest h = none_is h

  -- ---- chains of signs and powers

  raised_sound : (ts us : List Token) (x : Tree) (w : Part) (rest : List Token) → Found (Reads Primary) ts x us → raised_or_last E (x, us) ≡ Some (w, rest) → FoundPart w ts rest
  raised_sound ts us x w rest f h =
      ⊎_elim
      (λ (c : (sees s.Power us ≡ true) × (Some (Waits (WaitsPower x), drop 1 us) ≡ Some (w, rest))).
      subst (λ v. FoundPart v ts rest) (first_is c.1) (f.front, f.split ∙ ap (λ l. f.front ++ l) (seen s.Power us c.0 ∙ ap (λ l. t.Sign s.Power ∷ l) (rest_is c.1)), f.reads))
      (λ (c : (sees s.Power us ≡ false) × (Some (Ends x, us) ≡ Some (w, rest))).
      subst (λ v. FoundPart v ts rest) (first_is c.1) (subst (Found (Reads Primary) ts x) (rest_is c.1) f))
      (chosen (sees s.Power us) (Some (Waits (WaitsPower x), drop 1 us)) (Some (Ends x, us)) (Some (w, rest)) h)

  part_sound : (ts : List Token) (w : Part) (rest : List Token) → part E ts ≡ Some (w, rest) → FoundPart w ts rest
  unfolding part
  part_sound ts w rest h =
      ⊎_elim
      (λ (c : (sees s.Minus ts ≡ true) × (Some (Waits WaitsMinus, drop 1 ts) ≡ Some (w, rest))). subst (λ v. FoundPart v ts rest) (first_is c.1) (seen s.Minus ts c.0 ∙ ap (λ l. t.Sign s.Minus ∷ l) (rest_is c.1)))
      (λ (c : (sees s.Minus ts ≡ false) × ((if sees s.Plus ts then Some (Waits WaitsPlus, drop 1 ts) else (primary E ts >>= raised_or_last E)) ≡ Some (w, rest))).
      ⊎_elim
      (λ (d : (sees s.Plus ts ≡ true) × (Some (Waits WaitsPlus, drop 1 ts) ≡ Some (w, rest))). subst (λ v. FoundPart v ts rest) (first_is d.1) (seen s.Plus ts d.0 ∙ ap (λ l. t.Sign s.Plus ∷ l) (rest_is d.1)))
      (λ (d : (sees s.Plus ts ≡ false) × ((primary E ts >>= raised_or_last E) ≡ Some (w, rest))).
      let b = bind_ok (primary E ts) (raised_or_last E) (w, rest) d.1 in
      raised_sound ts b.0.1 b.0.0 w rest (primary_sound ts b.0.0 b.0.1 b.1) b.2)
      (chosen (sees s.Plus ts) (Some (Waits WaitsPlus, drop 1 ts)) (primary E ts >>= raised_or_last E) (Some (w, rest)) c.1))
      (chosen (sees s.Minus ts) (Some (Waits WaitsMinus, drop 1 ts)) (if sees s.Plus ts then Some (Waits WaitsPlus, drop 1 ts) else (primary E ts >>= raised_or_last E)) (Some (w, rest)) h)

  signed_sound : (n : ℕ) (ts : List Token) (x : Tree) (rest : List Token) → signed_in E n ts ≡ Some (x, rest) → Found (Reads Signed) ts x rest
  unfolding signed_in
  signed_sound zero ts x rest h = none_is h
  signed_sound (suc n) ts x rest h =
      let b = bind_ok (part E ts) (λ v. gone_on E (signed_in E n) v.0 v.1) (x, rest) h in
      let go : (w : Part) → FoundPart w ts b.0.1 → gone_on E (signed_in E n) w b.0.1 ≡ Some (x, rest) → Found (Reads Signed) ts x rest = elim [
        | Waits w ↦ λ f j.
            let g = given_is w (signed_in E n b.0.1) x rest j in
            subst (λ v. Found (Reads Signed) ts v rest) g.2 (wrapped_found w ts b.0.1 g.0 rest f (signed_sound n b.0.1 g.0 rest g.1))
        | Ends y ↦ λ f j. record { front = f.front; split = f.split ∙ ap (λ l. f.front ++ l) (rest_is j); reads = is.power (is.primary (subst (Reads Primary f.front) (first_is j) f.reads)) }
      ] in
      go b.0.0 (part_sound ts b.0.0 b.0.1 b.1) b.2

-- ---- operators of one level

module _ (r under : Level) (ops : Option Token → Option Op) (operand : List Token → Outcome Tree)
    (none : ops None ≡ None)
    (base : (ts : List Token) (x : Tree) → Reads under ts x → Reads r ts x)
    (join : (w : Token) (o : Op) → ops (Some w) ≡ Some o → (ts us : List Token) (x y : Tree) → Reads r ts x → Reads under us y → Reads r (ts ++ w ∷ us) (e.Binary o x y))
    (H : (ts : List Token) (x : Tree) (rest : List Token) → operand ts ≡ Some (x, rest) → Found (Reads under) ts x rest) where
  ended : (pre : List Token) (left : Tree) (ts : List Token) (x : Tree) (rest : List Token) → Reads r pre left → ◌≡◌ {A = Outcome Tree} (Some (left, ts)) (Some (x, rest)) → Found (Reads r) (pre ++ ts) x rest
  ended pre left ts x rest a h = record { front = pre; split = ap (λ l. pre ++ l) (rest_is h); reads = subst (Reads r pre) (first_is h) a }

  chain_from_sound : (n : ℕ) (left : Tree) (ts : List Token) (x : Tree) (rest : List Token) → chain_from ops operand n left ts ≡ Some (x, rest) → (pre : List Token) → Reads r pre left → Found (Reads r) (pre ++ ts) x rest
  unfolding chain_from
  chain_from_sound zero left ts x rest h pre a = ended pre left ts x rest a h
  chain_from_sound (suc n) left [] x rest h pre a = ended pre left [] x rest a (rw none at h)
  chain_from_sound (suc n) left (w ∷ ts) x rest h pre a =
      let go : (o : Option Op) → ops (Some w) ≡ o → joined ops operand (chain_from ops operand n) left (w ∷ ts) o ≡ Some (x, rest) → Found (Reads r) (pre ++ w ∷ ts) x rest = elim [
        | None ↦ λ ise j. ended pre left (w ∷ ts) x rest a j
        | Some o ↦ λ ise j.
            let b = bind_ok (operand ts) (λ z. chain_from ops operand n (e.Binary o left z.0) z.1) (x, rest) j in
            let f = H ts b.0.0 b.0.1 b.1 in
            let longer = chain_from_sound n (e.Binary o left b.0.0) b.0.1 x rest b.2 (pre ++ w ∷ f.front) (join w o ise pre f.front left b.0.0 a f.reads) in
            let same : (pre ++ w ∷ f.front) ++ b.0.1 ≡ pre ++ w ∷ ts = append_assoc pre (w ∷ f.front) b.0.1 ∙ ap (λ l. pre ++ w ∷ l) (sym f.split) in
            subst (λ l. Found (Reads r) l x rest) same longer
      ] in
      go (ops (Some w)) refl h

  chain_sound : (ts : List Token) (x : Tree) (rest : List Token) → chain ops operand ts ≡ Some (x, rest) → Found (Reads r) ts x rest
  unfolding chain
  chain_sound ts x rest h =
      let b = bind_ok (operand ts) (λ z. chain_from ops operand (length z.1) z.0 z.1) (x, rest) h in
      let f = H ts b.0.0 b.0.1 b.1 in
      subst (λ l. Found (Reads r) l x rest) (sym f.split) (chain_from_sound (length b.0.1) b.0.0 b.0.1 x rest b.2 f.front (base f.front b.0.0 f.reads))

join_product : (w : Token) (o : Op) → multiplicative (Some w) ≡ Some o → (ts us : List Token) (x y : Tree) → Reads Product ts x → Reads Signed us y → Reads Product (ts ++ w ∷ us) (e.Binary o x y)
join_product (t.Sign s.Times) o h ts us x y a b = subst (λ j. Reads Product (ts ++ t.Sign s.Times ∷ us) (e.Binary j x y)) (some_is h) (is.times a b)
join_product w o h ts us x y a b = none_is h

join_sum : (w : Token) (o : Op) → additive (Some w) ≡ Some o → (ts us : List Token) (x y : Tree) → Reads Sum ts x → Reads Product us y → Reads Sum (ts ++ w ∷ us) (e.Binary o x y)
join_sum (t.Sign s.Plus) o h ts us x y a b = subst (λ j. Reads Sum (ts ++ t.Sign s.Plus ∷ us) (e.Binary j x y)) (some_is h) (is.plus a b)
join_sum (t.Sign s.Minus) o h ts us x y a b = subst (λ j. Reads Sum (ts ++ t.Sign s.Minus ∷ us) (e.Binary j x y)) (some_is h) (is.minus a b)
join_sum w o h ts us x y a b = none_is h

join_conjunction : (w : Token) (o : Op) → conjunctive (Some w) ≡ Some o → (ts us : List Token) (x y : Tree) → Reads Conjunction ts x → Reads Negation us y → Reads Conjunction (ts ++ w ∷ us) (e.Binary o x y)
join_conjunction (t.Key k.And) o h ts us x y a b = subst (λ j. Reads Conjunction (ts ++ t.Key k.And ∷ us) (e.Binary j x y)) (some_is h) (is.and a b)
join_conjunction w o h ts us x y a b = none_is h

join_disjunction : (w : Token) (o : Op) → disjunctive (Some w) ≡ Some o → (ts us : List Token) (x y : Tree) → Reads Disjunction ts x → Reads Conjunction us y → Reads Disjunction (ts ++ w ∷ us) (e.Binary o x y)
join_disjunction (t.Key k.Or) o h ts us x y a b = subst (λ j. Reads Disjunction (ts ++ t.Key k.Or ∷ us) (e.Binary j x y)) (some_is h) (is.or a b)
join_disjunction w o h ts us x y a b = none_is h

-- ---- comparisons and negations

module _ (E : List Token → Outcome Tree) (H : (ts : List Token) (x : Tree) (rest : List Token) → sum E ts ≡ Some (x, rest) → Found (Reads Sum) ts x rest) where
  compared_sound : (ts us : List Token) (x y : Tree) (rest : List Token) → Found (Reads Sum) ts x us → joined relational (sum E) (λ z vs. Some (z, vs)) x us (relational (first us)) ≡ Some (y, rest) → Found (Reads Comparison) ts y rest
  compared_sound ts [] x y rest f h = record { front = f.front; split = f.split ∙ ap (λ l. f.front ++ l) (rest_is h); reads = is.sum (subst (Reads Sum f.front) (first_is h) f.reads) }
  compared_sound ts (w ∷ us) x y rest f h =
      let go : (o : Option Op) → relation_of w ≡ o → joined relational (sum E) (λ z vs. Some (z, vs)) x (w ∷ us) o ≡ Some (y, rest) → Found (Reads Comparison) ts y rest = elim [
        | None ↦ λ ise j. record { front = f.front; split = f.split ∙ ap (λ l. f.front ++ l) (rest_is j); reads = is.sum (subst (Reads Sum f.front) (first_is j) f.reads) }
        | Some o ↦ λ ise j.
            let b = bind_ok (sum E us) (λ z. Some (e.Binary o x z.0, z.1)) (y, rest) j in
            let g = H us b.0.0 b.0.1 b.1 in
            record {
              front = f.front ++ w ∷ g.front;
              split = f.split ∙ ap (λ l. f.front ++ w ∷ l) (g.split ∙ ap (λ l. g.front ++ l) (rest_is b.2)) ∙ sym (append_assoc f.front (w ∷ g.front) rest);
              reads = subst (Reads Comparison (f.front ++ w ∷ g.front)) (first_is b.2) (is.relation w ise f.reads g.reads);
            }
      ] in
      go (relation_of w) refl h

  comparison_sound : (ts : List Token) (x : Tree) (rest : List Token) → comparison E ts ≡ Some (x, rest) → Found (Reads Comparison) ts x rest
  unfolding comparison
  comparison_sound ts x rest h =
      let b = bind_ok (sum E ts) (λ z. joined relational (sum E) (λ y us. Some (y, us)) z.0 z.1 (relational (first z.1))) (x, rest) h in
      compared_sound ts b.0.1 b.0.0 x rest (H ts b.0.0 b.0.1 b.1) b.2

  -- what a part of a chain of `не` shows
  FoundNegation : Part → List Token → List Token → Type 0
  FoundNegation (Waits WaitsNot) ts rest = ts ≡ t.Key k.Not ∷ rest
  FoundNegation (Waits w) ts rest = ⊥
  FoundNegation (Ends x) ts rest = Found (Reads Comparison) ts x rest

  negation_part_sound : (ts : List Token) (w : Part) (rest : List Token) → negation_part E ts ≡ Some (w, rest) → FoundNegation w ts rest
  unfolding negation_part FoundNegation
  negation_part_sound ts w rest h =
      ⊎_elim
      (λ (c : (sees_key k.Not ts ≡ true) × (Some (Waits WaitsNot, drop 1 ts) ≡ Some (w, rest))). subst (λ v. FoundNegation v ts rest) (first_is c.1) (seen_key k.Not ts c.0 ∙ ap (λ l. t.Key k.Not ∷ l) (rest_is c.1)))
      (λ (c : (sees_key k.Not ts ≡ false) × ((comparison E ts >>= (λ x. Some (Ends x.0, x.1))) ≡ Some (w, rest))).
      let b = bind_ok (comparison E ts) (λ x. Some (Ends x.0, x.1)) (w, rest) c.1 in
      subst (λ v. FoundNegation v ts rest) (first_is b.2) (subst (Found (Reads Comparison) ts b.0.0) (rest_is b.2) (comparison_sound ts b.0.0 b.0.1 b.1)))
      (chosen (sees_key k.Not ts) (Some (Waits WaitsNot, drop 1 ts)) (comparison E ts >>= (λ x. Some (Ends x.0, x.1))) (Some (w, rest)) h)

  negated_found : (w : Waiting) (ts us : List Token) (y : Tree) (rest : List Token) → FoundNegation (Waits w) ts us → Found (Reads Negation) us y rest → Found (Reads Negation) ts (wrap_one w y) rest
  unfolding FoundNegation
  negated_found WaitsNot ts us y rest h f = record { front = t.Key k.Not ∷ f.front; split = h ∙ ap (λ l. t.Key k.Not ∷ l) f.split; reads = is.not f.reads }
  negated_found w ts us y rest h f = absurd h

  negation_sound : (n : ℕ) (ts : List Token) (x : Tree) (rest : List Token) → negation_in E n ts ≡ Some (x, rest) → Found (Reads Negation) ts x rest
  unfolding negation_in FoundNegation
  negation_sound zero ts x rest h = none_is h
  negation_sound (suc n) ts x rest h =
      let b = bind_ok (negation_part E ts) (λ v. gone_on E (negation_in E n) v.0 v.1) (x, rest) h in
      let go : (w : Part) → FoundNegation w ts b.0.1 → gone_on E (negation_in E n) w b.0.1 ≡ Some (x, rest) → Found (Reads Negation) ts x rest = elim [
        | Waits w ↦ λ f j.
            let g = given_is w (negation_in E n b.0.1) x rest j in
            subst (λ v. Found (Reads Negation) ts v rest) g.2 (negated_found w ts b.0.1 g.0 rest f (negation_sound n b.0.1 g.0 rest g.1))
        | Ends y ↦ λ f j. record { front = f.front; split = f.split ∙ ap (λ l. f.front ++ l) (rest_is j); reads = is.comparison (subst (Reads Comparison f.front) (first_is j) f.reads) }
      ] in
      go b.0.0 (negation_part_sound ts b.0.0 b.0.1 b.1) b.2

-- ---- whole expressions

pub expr_sound : (d : ℕ) (ts : List Token) (x : Tree) (rest : List Token) → expr_in d ts ≡ Some (x, rest) → Found (Reads Disjunction) ts x rest
unfolding expr_in signed negation
expr_sound zero ts x rest h = none_is h
expr_sound (suc d) ts x rest h =
    let E = expr_in d in
    let products : (us : List Token) (y : Tree) (more : List Token) → product E us ≡ Some (y, more) → Found (Reads Product) us y more =
    chain_sound Product Signed multiplicative (signed E) refl (λ us y a. is.signed a) join_product (λ us y more j. signed_sound E (expr_sound d) (length us) us y more j) in
    let sums : (us : List Token) (y : Tree) (more : List Token) → sum E us ≡ Some (y, more) → Found (Reads Sum) us y more =
    chain_sound Sum Product additive (product E) refl (λ us y a. is.product a) join_sum products in
    let conjunctions : (us : List Token) (y : Tree) (more : List Token) → conjunction E us ≡ Some (y, more) → Found (Reads Conjunction) us y more =
    chain_sound Conjunction Negation conjunctive (negation E) refl (λ us y a. is.negation a) join_conjunction (λ us y more j. negation_sound E sums (length us) us y more j) in
    chain_sound Disjunction Conjunction disjunctive (conjunction E) refl (λ us y a. is.conjunction a) join_disjunction conjunctions ts x rest h

pub expression_sound : (ts : List Token) (x : Tree) (rest : List Token) → expression ts ≡ Some (x, rest) → Found (Reads Disjunction) ts x rest
unfolding expression
expression_sound ts x rest h = expr_sound (length ts + 1) ts x rest h
