-- What is a part of a form is read as one.
use Rattle.std.proofs.Common.{append-nil, ◌≡◌, ℕ, ◌+◌, ◌-◌, ◌<◌, ◌≤◌, nat_le, true, false, List, [], ◌∷◌, ◌++◌, length, drop, Option, Some, ap, sym, ◌∙◌, refl, arith, append_assoc, length-append, length-drop}
use Rattle.kumir_tree.specs.Tree.{Tree, Trees}
use Rattle.kumir_tree.specs.Part.{Limits, Place, ToScalar, ToElement, Shown, ShowValue}
use Rattle.kumir_tree.specs.declared.token.Token.{Token}
use Rattle.kumir_tree.specs.declared.token.Token.TheVariants as t
use Rattle.kumir_tree.specs.declared.token.Sign.TheVariants as s
use Rattle.kumir_tree.specs.declared.token.Key.TheVariants as k
use Rattle.expr_forms.specs.Grammar.{Disjunction, IsExpr, ReadsArguments, ReadsIndexes}
use Rattle.expr_forms.specs.Lists.{Listed, last, next}
use Rattle.expr_forms.specs.Forms as is
use Rattle.expr_forms.specs.Forms.{IsName, IsBound, IsBounds, IsTable, IsTarget, IsItem, Perhaps}
use Rattle.expr_forms.specs.Looks.{Outcome, mapped, sees, same_sign}
use Rattle.expr_forms.specs.Reading.{listed_from, listing, closed, expression}
use Rattle.expr_forms.specs.PartReading.{top_arguments, top_indexes, perhaps_expression, name, bound, bounds, table, target_of, target, item}
use Rattle.expr_forms.proofs.Begins.{Head, begins, begins_some, some_tokens}
use Rattle.expr_forms.proofs.Steps.{listed_ends, listed_goes_on}
use Rattle.expr_forms.proofs.Complete.{Stops, stops_at_end, stops_at_close_square, stops_at_comma, stops_at_colon, complete_arguments, complete_indexes, expression_complete}

-- ---- lists

module _ (A : Type 0) (One : List Token → A → Type 0) (reader : List Token → Outcome A)
    (some : (ts : List Token) (x : A) → One ts x → 0 < length ts)
    (reads : (ts : List Token) (x : A) → One ts x → (rest : List Token) → Stops rest → reader (ts ++ rest) ≡ Some (x, rest)) where
  listed_complete : {ts : List Token} {xs : List A} → Listed One ts xs → (n : ℕ) → length ts ≤ n → (found : List A) (rest : List Token) → sees s.Comma rest ≡ false → Stops rest
      → listed_from reader n found (ts ++ rest) ≡ Some (found ++ xs, rest)
  listed_complete (last {ts} {x} a) n le found rest c h = listed_ends A reader n found (ts ++ rest) rest x (omega (arith, some ts x a)) (reads ts x a rest h) c
  listed_complete (next {ts} {us} {x} {xs} a b) n le found rest c h =
      let fits = length-append ts (t.Sign s.Comma ∷ us) in
      ap (listed_from reader n found) (append_assoc ts (t.Sign s.Comma ∷ us) rest)
      ∙ listed_goes_on A reader n found (ts ++ t.Sign s.Comma ∷ (us ++ rest)) (us ++ rest) x (omega (arith, fits)) (reads ts x a (t.Sign s.Comma ∷ (us ++ rest)) (stops_at_comma (us ++ rest)))
      ∙ listed_complete b (n - 1) (omega (arith, fits)) (found ++ x ∷ []) rest c h
      ∙ ap (λ l. Some (l, rest)) (append_assoc found (x ∷ []) xs)

  pub listing_complete : (ts : List Token) (xs : List A) → Listed One ts xs → (rest : List Token) → sees s.Comma rest ≡ false → Stops rest → listing reader (ts ++ rest) ≡ Some (xs, rest)
  listing_complete ts xs a rest c h = listed_complete a (length (ts ++ rest)) (omega (arith, length-append ts rest)) [] rest c h

  -- a list that ends the piece
  pub listing_whole : (ts : List Token) (xs : List A) → Listed One ts xs → listing reader ts ≡ Some (xs, [])
  listing_whole ts xs a = ap (listing reader) (sym (append-nil ts)) ∙ listing_complete ts xs a [] refl stops_at_end

-- ---- expressions

pub expr_some : (ts : List Token) (x : Tree) → IsExpr ts x → 0 < length ts
expr_some ts x a = some_tokens (Head Disjunction) ts (begins a)

pub expression_whole : (ts : List Token) (x : Tree) → IsExpr ts x → expression ts ≡ Some (x, [])
expression_whole ts x a = ap expression (sym (append-nil ts)) ∙ expression_complete a [] stops_at_end

pub perhaps_expression_whole : (ts : List Token) (x : Option Tree) → Perhaps IsExpr ts x → perhaps_expression ts ≡ Some (x, [])
perhaps_expression_whole ts x is.missing = refl
perhaps_expression_whole ts x (is.there {x = y} a) =
    let b = begins a in
    ap perhaps_expression b.split ∙ ap (λ l. mapped (λ z. Some z) (expression l)) (sym b.split) ∙ ap (mapped (λ z. Some z)) (expression_whole ts y a)

fits_behind : (ts rest : List Token) → length ts ≤ length (drop 1 (ts ++ rest)) + 1
fits_behind ts rest = omega (arith, length-drop 1 (ts ++ rest), length-append ts rest)

pub record ArgumentsRead (ts : List Token) (xs : Trees) (rest : List Token) : Type 0 where
  pub opens : sees s.Open (ts ++ rest) ≡ true
  pub reads : top_arguments (drop 1 (ts ++ rest)) ≡ Some (xs, rest)

pub top_arguments_complete : (ts : List Token) (xs : Trees) → ReadsArguments ts xs → (rest : List Token) → ArgumentsRead ts xs rest
unfolding top_arguments
top_arguments_complete ts xs a rest =
    let c = complete_arguments a (length (drop 1 (ts ++ rest)) + 1) (fits_behind ts rest) rest in
    record { opens = c.opens; reads = c.reads }

pub record IndexesRead (ts : List Token) (xs : Trees) (rest : List Token) : Type 0 where
  pub no_bracket : sees s.Open (ts ++ rest) ≡ false
  pub opens : sees s.OpenSquare (ts ++ rest) ≡ true
  pub reads : top_indexes (drop 1 (ts ++ rest)) ≡ Some (xs, rest)

pub top_indexes_complete : (ts : List Token) (xs : Trees) → ReadsIndexes ts xs → (rest : List Token) → IndexesRead ts xs rest
unfolding top_indexes
top_indexes_complete ts xs a rest =
    let c = complete_indexes a (length (drop 1 (ts ++ rest)) + 1) (fits_behind ts rest) rest in
    record { no_bracket = c.no_bracket; opens = c.opens; reads = c.reads }

-- ---- names

pub name_some : (ts : List Token) (x : List ℕ) → IsName ts x → 0 < length ts
name_some ts x is.name = omega arith

pub name_complete : (ts : List Token) (x : List ℕ) → IsName ts x → (rest : List Token) → Stops rest → name (ts ++ rest) ≡ Some (x, rest)
unfolding name
name_complete ts x is.name rest h = refl

-- ---- bounds and tables

bound_reads : (us vs rest : List Token) (x y : Tree) → expression us ≡ Some (x, t.Sign s.Colon ∷ vs) → expression vs ≡ Some (y, rest) → bound us ≡ Some ((x, y), rest)
unfolding bound same_sign
bound_reads us vs rest x y h j = rw (h, j) refl

bound_some : (ts : List Token) (x : Tree × Tree) → IsBound ts x → 0 < length ts
bound_some ts x (is.bound {ts = us} {us = vs} a b) = omega (arith, length-append us (t.Sign s.Colon ∷ vs))

bound_complete : (ts : List Token) (x : Tree × Tree) → IsBound ts x → (rest : List Token) → Stops rest → bound (ts ++ rest) ≡ Some (x, rest)
bound_complete ts x (is.bound {ts = us} {us = vs} {x = y} {y = z} a b) rest h =
    ap bound (append_assoc us (t.Sign s.Colon ∷ vs) rest)
    ∙ bound_reads (us ++ t.Sign s.Colon ∷ (vs ++ rest)) (vs ++ rest) rest y z (expression_complete a (t.Sign s.Colon ∷ (vs ++ rest)) (stops_at_colon (vs ++ rest))) (expression_complete b rest h)

bounds_read : (us rest : List Token) (bs : Limits) → nat_le (length bs) 2 ≡ true → listing bound us ≡ Some (bs, t.Sign s.CloseSquare ∷ rest) → bounds us ≡ Some (bs, rest)
unfolding bounds closed same_sign
bounds_read us rest bs few h = rw (h, few) refl

pub record BoundsRead (ts : List Token) (bs : Limits) (rest : List Token) : Type 0 where
  pub opens : sees s.OpenSquare (ts ++ rest) ≡ true
  pub reads : bounds (drop 1 (ts ++ rest)) ≡ Some (bs, rest)

pub bounds_complete : (ts : List Token) (bs : Limits) → IsBounds ts bs → (rest : List Token) → BoundsRead ts bs rest
unfolding same_sign
bounds_complete ts bs (is.bounds {ts = us} a d) rest =
    let few : nat_le (length bs) 2 ≡ true = (let n : length bs ≤ 2 = d.1 in grind arith) in
    record {
      opens = refl;
      reads = ap bounds (append_assoc us (t.Sign s.CloseSquare ∷ []) rest)
          ∙ bounds_read (us ++ t.Sign s.CloseSquare ∷ rest) rest bs few (listing_complete (Tree × Tree) IsBound bound bound_some bound_complete us bs a (t.Sign s.CloseSquare ∷ rest) refl (stops_at_close_square rest));
    }

table_reads : (x : List ℕ) (us rest : List Token) (bs : Limits) → sees s.OpenSquare us ≡ true → bounds (drop 1 us) ≡ Some (bs, rest) → table (t.Named x ∷ us) ≡ Some ((x, bs), rest)
unfolding table name
table_reads x us rest bs h j = rw (h, j) refl

pub table_some : (ts : List Token) (x : List ℕ × Limits) → IsTable ts x → 0 < length ts
table_some ts x (is.table_name b) = omega arith

pub table_complete : (ts : List Token) (x : List ℕ × Limits) → IsTable ts x → (rest : List Token) → Stops rest → table (ts ++ rest) ≡ Some (x, rest)
table_complete ts x (is.table_name {x = y} {ts = us} {bs} b) rest h =
    let c = bounds_complete us bs b rest in
    table_reads y (us ++ rest) rest bs c.opens c.reads

-- ---- targets and items

scalar_reads : (x : List ℕ) (us : List Token) → sees s.OpenSquare us ≡ false → target (t.Named x ∷ us) ≡ Some (ToScalar x, us)
unfolding target target_of name
scalar_reads x us h = rw h refl

element_reads : (x : List ℕ) (us rest : List Token) (xs : Trees) → sees s.OpenSquare us ≡ true → top_indexes (drop 1 us) ≡ Some (xs, rest) → target (t.Named x ∷ us) ≡ Some (ToElement x xs, rest)
unfolding target target_of name
element_reads x us rest xs h j = rw (h, j) refl

pub target_some : (ts : List Token) (p : Place) → IsTarget ts p → 0 < length ts
target_some ts p is.scalar_target = omega arith
target_some ts p (is.element_target a) = omega arith

pub target_complete : (ts : List Token) (p : Place) → IsTarget ts p → (rest : List Token) → Stops rest → target (ts ++ rest) ≡ Some (p, rest)
target_complete ts p (is.scalar_target {x}) rest h = scalar_reads x rest h.0.0.0.0.0.0.1
target_complete ts p (is.element_target {x} {ts = us} {xs} a) rest h =
    let c = top_indexes_complete us xs a rest in
    element_reads x (us ++ rest) rest xs c.opens c.reads

item_value : (w : Token) (us : List Token) → begins_some w ≡ true → item (w ∷ us) ≡ mapped ShowValue (expression (w ∷ us))
unfolding item
item_value (t.Literal x) us h = absurd (let none : ⊥ = cc in none)
item_value (t.Key k.NewLine) us h = absurd (let none : ⊥ = cc in none)
item_value w us h = refl

pub item_some : (ts : List Token) (x : Shown) → IsItem ts x → 0 < length ts
item_some ts x (is.value {x = y} a) = expr_some ts y a
item_some ts x is.literal = omega arith
item_some ts x is.new_line = omega arith

pub item_complete : (ts : List Token) (x : Shown) → IsItem ts x → (rest : List Token) → Stops rest → item (ts ++ rest) ≡ Some (x, rest)
unfolding item
item_complete ts x (is.value {x = y} a) rest h =
    let b = begins a in
    ap (λ l. item (l ++ rest)) b.split ∙ item_value b.head (b.tail ++ rest) b.fits ∙ ap (λ l. mapped ShowValue (expression (l ++ rest))) (sym b.split) ∙ ap (mapped ShowValue) (expression_complete a rest h)
item_complete ts x is.literal rest h = refl
item_complete ts x is.new_line rest h = refl
