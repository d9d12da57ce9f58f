-- What is read as a part of a form is one.
use Rattle.std.proofs.Common.{◌≡◌, ℕ, ◌+◌, ◌≤◌, nat_le, true, false, ⊎_elim, List, [], ◌∷◌, ◌++◌, length, drop, Option, Some, None, ap, sym, ◌∙◌, subst, arith, append_assoc}
use Rattle.std.specs.Prelude.{if◌then◌else◌}
use Rattle.kumir_tree.specs.Tree.{Tree, Trees}
use Rattle.kumir_tree.specs.Part.{Limits, Place, ToScalar, ToElement, Shown, ShowValue}
use Rattle.kumir_tree.specs.declared.token.Token.{Token}
use Rattle.kumir_tree.specs.declared.token.Token.TheVariants as t
use Rattle.kumir_tree.specs.declared.token.Sign.TheVariants as s
use Rattle.kumir_tree.specs.declared.token.Key.TheVariants as k
use Rattle.expr_forms.specs.Grammar.{IsExpr, ReadsArguments, ReadsIndexes}
use Rattle.expr_forms.specs.Lists.{Listed, last, next}
use Rattle.expr_forms.specs.Forms as is
use Rattle.expr_forms.specs.Forms.{IsName, IsBound, IsBounds, IsTable, IsTarget, IsItem, Perhaps}
use Rattle.expr_forms.specs.Looks.{Outcome, ◌>>=◌, mapped, sees}
use Rattle.expr_forms.specs.Reading.{listing, closed, expr_in, expression}
use Rattle.expr_forms.specs.PartReading.{top_arguments, top_indexes, perhaps_expression, name, bound, few_bounds, bounds, table, target_of, target, item}
use Rattle.expr_forms.proofs.Cases.{bind_ok, chosen, none_is, first_is, rest_is, seen, needs, closed_is, mapped_is, Found, listing_sound}
use Rattle.expr_forms.proofs.Sound.{arguments_sound, indexes_sound, expr_sound, expression_sound}

pub top_arguments_sound : (us : List Token) (xs : Trees) (rest : List Token) → top_arguments us ≡ Some (xs, rest) → Found ReadsArguments (t.Sign s.Open ∷ us) xs rest
unfolding top_arguments
top_arguments_sound us xs rest h = arguments_sound (expr_in (length us + 1)) (expr_sound (length us + 1)) us xs rest h

pub top_indexes_sound : (us : List Token) (xs : Trees) (rest : List Token) → top_indexes us ≡ Some (xs, rest) → Found ReadsIndexes (t.Sign s.OpenSquare ∷ us) xs rest
unfolding top_indexes
top_indexes_sound us xs rest h = indexes_sound (expr_in (length us + 1)) (expr_sound (length us + 1)) us xs rest h

pub perhaps_expression_sound : (ts : List Token) (x : Option Tree) (rest : List Token) → perhaps_expression ts ≡ Some (x, rest) → Found (Perhaps IsExpr) ts x rest
perhaps_expression_sound [] x rest h = record { front = []; split = rest_is h; reads = subst (Perhaps IsExpr []) (first_is h) is.missing }
perhaps_expression_sound (w ∷ ts) x rest h =
    let a = mapped_is (λ y. Some y) (expression (w ∷ ts)) x rest h in
    let f = expression_sound (w ∷ ts) a.0 rest a.1 in
    record { front = f.front; split = f.split; reads = subst (Perhaps IsExpr f.front) a.2 (is.there f.reads) }

pub name_is : (ts : List Token) (x : List ℕ) (rest : List Token) → name ts ≡ Some (x, rest) → ts ≡ t.Named x ∷ rest
unfolding name
name_is [] x rest h = none_is h
name_is (t.Named y ∷ ts) x rest h = λ i. t.Named (first_is h i) ∷ rest_is h i
name_is (w ∷ ts) x rest h = none_is h

pub name_sound : (ts : List Token) (x : List ℕ) (rest : List Token) → name ts ≡ Some (x, rest) → Found IsName ts x rest
name_sound ts x rest h = record { front = t.Named x ∷ []; split = name_is ts x rest h; reads = is.name }

-- ---- bounds and tables

bound_sound : (ts : List Token) (x : Tree × Tree) (rest : List Token) → bound ts ≡ Some (x, rest) → Found IsBound ts x rest
unfolding bound
bound_sound ts x rest h =
    let b = bind_ok (expression ts) (λ x. if sees s.Colon x.1 then (expression (drop 1 x.1) >>= (λ y. Some ((x.0, y.0), y.1))) else None) (x, rest) h in
    let f = expression_sound ts b.0.0 b.0.1 b.1 in
    let n = needs s.Colon b.0.1 (expression (drop 1 b.0.1) >>= (λ y. Some ((b.0.0, y.0), y.1))) (x, rest) b.2 in
    let d = bind_ok (expression (drop 1 b.0.1)) (λ y. Some ((b.0.0, y.0), y.1)) (x, rest) n.1 in
    let g = expression_sound (drop 1 b.0.1) d.0.0 d.0.1 d.1 in
    record {
      front = f.front ++ t.Sign s.Colon ∷ g.front;
      split = f.split ∙ ap (λ l. f.front ++ l) (n.0 ∙ ap (λ l. t.Sign s.Colon ∷ l) (g.split ∙ ap (λ l. g.front ++ l) (rest_is d.2))) ∙ sym (append_assoc f.front (t.Sign s.Colon ∷ g.front) rest);
      reads = subst (IsBound (f.front ++ t.Sign s.Colon ∷ g.front)) (first_is d.2) (is.bound f.reads g.reads);
    }

few_bounds_is : (o : Outcome Limits) (bs : Limits) (rest : List Token) → few_bounds o ≡ Some (bs, rest) → (o ≡ Some (bs, rest)) × (nat_le (length bs) 2 ≡ true)
few_bounds_is None bs rest h = none_is h
few_bounds_is (Some r) bs rest h =
    ⊎_elim
    (λ (c : (nat_le (length r.0) 2 ≡ true) × (Some (r.0, r.1) ≡ Some (bs, rest))). (c.1, subst (λ (l : Limits). nat_le (length l) 2 ≡ true) (first_is c.1) c.0))
    (λ (c : (nat_le (length r.0) 2 ≡ false) × (None ≡ Some (bs, rest))). none_is c.1)
    (chosen (nat_le (length r.0) 2) (Some (r.0, r.1)) None (Some (bs, rest)) h)

listed_some : {A : Type 0} (One : List Token → A → Type 0) (ts : List Token) (xs : List A) → Listed One ts xs → 1 ≤ length xs
listed_some One ts xs (last a) = omega arith
listed_some One ts xs (next a b) = omega arith

pub bounds_sound : (us : List Token) (bs : Limits) (rest : List Token) → bounds us ≡ Some (bs, rest) → Found IsBounds (t.Sign s.OpenSquare ∷ us) bs rest
unfolding bounds
bounds_sound us bs rest h =
    let a = few_bounds_is (closed s.CloseSquare (listing bound us)) bs rest h in
    let f = listing_sound (Tree × Tree) IsBound bound bound_sound us bs (t.Sign s.CloseSquare ∷ rest) (closed_is s.CloseSquare (listing bound us) bs rest a.0) in
    let some : 1 ≤ length bs = listed_some IsBound f.front bs f.reads in
    let few : length bs ≤ 2 = (let n = a.1 in grind arith) in
    record {
      front = t.Sign s.OpenSquare ∷ (f.front ++ t.Sign s.CloseSquare ∷ []);
      split = ap (λ l. t.Sign s.OpenSquare ∷ l) (f.split ∙ sym (append_assoc f.front (t.Sign s.CloseSquare ∷ []) rest));
      reads = is.bounds f.reads (some, few);
    }

pub table_sound : (ts : List Token) (x : List ℕ × Limits) (rest : List Token) → table ts ≡ Some (x, rest) → Found IsTable ts x rest
unfolding table
table_sound ts x rest h =
    let b = bind_ok (name ts) (λ y. if sees s.OpenSquare y.1 then mapped (λ bs. (y.0, bs)) (bounds (drop 1 y.1)) else None) (x, rest) h in
    let n = needs s.OpenSquare b.0.1 (mapped (λ bs. (b.0.0, bs)) (bounds (drop 1 b.0.1))) (x, rest) b.2 in
    let a = mapped_is (λ bs. (b.0.0, bs)) (bounds (drop 1 b.0.1)) x rest n.1 in
    let f = bounds_sound (drop 1 b.0.1) a.0 rest a.1 in
    record {
      front = t.Named b.0.0 ∷ f.front;
      split = name_is ts b.0.0 b.0.1 b.1 ∙ ap (λ l. t.Named b.0.0 ∷ l) (n.0 ∙ f.split);
      reads = subst (IsTable (t.Named b.0.0 ∷ f.front)) a.2 (is.table_name f.reads);
    }

-- ---- targets and items

target_of_sound : (x : List ℕ) (ts : List Token) (p : Place) (rest : List Token) → target_of x ts ≡ Some (p, rest) → Found IsTarget (t.Named x ∷ ts) p rest
unfolding target_of
target_of_sound x ts p rest h =
    ⊎_elim
    (λ (c : (sees s.OpenSquare ts ≡ true) × (mapped (ToElement x) (top_indexes (drop 1 ts)) ≡ Some (p, rest))).
    let a = mapped_is (ToElement x) (top_indexes (drop 1 ts)) p rest c.1 in
    let f = top_indexes_sound (drop 1 ts) a.0 rest a.1 in
    record {
      front = t.Named x ∷ f.front;
      split = ap (λ l. t.Named x ∷ l) (seen s.OpenSquare ts c.0 ∙ f.split);
      reads = subst (IsTarget (t.Named x ∷ f.front)) a.2 (is.element_target f.reads);
    })
    (λ (c : (sees s.OpenSquare ts ≡ false) × (Some (ToScalar x, ts) ≡ Some (p, rest))). record {
      front = t.Named x ∷ [];
      split = ap (λ l. t.Named x ∷ l) (rest_is c.1);
      reads = subst (IsTarget (t.Named x ∷ [])) (first_is c.1) is.scalar_target;
    })
    (chosen (sees s.OpenSquare ts) (mapped (ToElement x) (top_indexes (drop 1 ts))) (Some (ToScalar x, ts)) (Some (p, rest)) h)

pub target_sound : (ts : List Token) (p : Place) (rest : List Token) → target ts ≡ Some (p, rest) → Found IsTarget ts p rest
unfolding target
target_sound ts p rest h =
    let b = bind_ok (name ts) (λ x. target_of x.0 x.1) (p, rest) h in
    subst (λ l. Found IsTarget l p rest) (sym (name_is ts b.0.0 b.0.1 b.1)) (target_of_sound b.0.0 b.0.1 p rest b.2)

value_sound : (ts : List Token) (x : Shown) (rest : List Token) → mapped ShowValue (expression ts) ≡ Some (x, rest) → Found IsItem ts x rest
value_sound ts x rest h =
    let a = mapped_is ShowValue (expression ts) x rest h in
    let f = expression_sound ts a.0 rest a.1 in
    record { front = f.front; split = f.split; reads = subst (IsItem f.front) a.2 (is.value f.reads) }

pub item_sound : (ts : List Token) (x : Shown) (rest : List Token) → item ts ≡ Some (x, rest) → Found IsItem ts x rest
unfolding item
item_sound [] x rest h = value_sound [] x rest h
item_sound (t.Literal cs ∷ ts) x rest h = record { front = t.Literal cs ∷ []; split = ap (λ l. t.Literal cs ∷ l) (rest_is h); reads = subst (IsItem (t.Literal cs ∷ [])) (first_is h) is.literal }
item_sound (t.Key k.NewLine ∷ ts) x rest h = record { front = t.Key k.NewLine ∷ []; split = ap (λ l. t.Key k.NewLine ∷ l) (rest_is h); reads = subst (IsItem (t.Key k.NewLine ∷ [])) (first_is h) is.new_line }
item_sound (w ∷ ts) x rest h = value_sound (w ∷ ts) x rest h
