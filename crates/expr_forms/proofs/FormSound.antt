-- What is read as a form is one.
use Rattle.std.proofs.Common.{◌≡◌, ℕ, true, false, ⊎_elim, List, [], ◌∷◌, ◌++◌, drop, Option, Some, None, ap, sym, ◌∙◌, subst, refl, append_assoc, append-nil}
use Rattle.std.specs.Prelude.{if◌then◌else◌, is_some}
use Rattle.kumir_tree.specs.Tree.{Tree, no_trees}
use Rattle.kumir_tree.specs.Part.{Limits, Place, ToAnswer, ToScalar, ToElement, Shown, Scalars, Tables, Formal}
use Rattle.kumir_tree.specs.Piece as piece
use Rattle.kumir_tree.specs.Piece.{Piece}
use Rattle.kumir_tree.specs.declared.kind.Kind.{Kind}
use Rattle.kumir_tree.specs.declared.token.Token.{Token}
use Rattle.kumir_tree.specs.declared.token.Token.TheVariants as t
use Rattle.kumir_tree.specs.declared.token.Sign.TheVariants as s
use Rattle.kumir_tree.specs.declared.token.Key.{Key}
use Rattle.kumir_tree.specs.declared.token.Key.TheVariants as k
use Rattle.expr_forms.specs.Grammar.{IsExpr}
use Rattle.expr_forms.specs.Lists.{Listed}
use Rattle.expr_forms.specs.Forms as is
use Rattle.expr_forms.specs.Forms.{kind_of, table_kind_of, IsName, IsKind, IsTable, IsTarget, IsItem, Perhaps, IsForm}
use Rattle.expr_forms.specs.Looks.{Outcome, ◌>>=◌, mapped, first, sees, sees_key, behind}
use Rattle.expr_forms.specs.Reading.{listing, expression}
use Rattle.expr_forms.specs.PartReading.{kind_at, top_arguments, top_indexes, perhaps_expression, name, table, target, item}
use Rattle.expr_forms.specs.HeaderReading.{signature, name_at, header_of, header}
use Rattle.expr_forms.specs.FormReading.{scalars, tables, declaration, assignment, named_piece, loop_times, stepped, counted, loop_count, loop_bare, loop_head, loop_end, when_case, keyword_form, table_or_keyword, kind_or_keyword, form, if_over, whole}
use Rattle.expr_forms.proofs.Cases.{bind_ok, chosen, none_is, some_is, first_is, rest_is, seen, seen_key, needs, needs_key, mapped_is, Found, listing_sound}
use Rattle.expr_forms.proofs.Sound.{expression_sound}
use Rattle.expr_forms.proofs.PartSound.{top_arguments_sound, top_indexes_sound, perhaps_expression_sound, name_is, name_sound, table_sound, target_sound, item_sound}
use Rattle.expr_forms.proofs.HeaderSound.{given_sound, name_at_sound, signature_sound}

-- a part behind some tokens makes a form
module _ (A : Type 0) (One : List Token → A → Type 0) (reader : List Token → Outcome A)
    (sound : (ts : List Token) (x : A) (rest : List Token) → reader ts ≡ Some (x, rest) → Found One ts x rest)
    (pre : List Token) (f : A → Piece)
    (make : (ts : List Token) (x : A) → One ts x → IsForm (pre ++ ts) (f x)) where
  made_sound : (ts : List Token) (p : Piece) (rest : List Token) → mapped f (reader ts) ≡ Some (p, rest) → Found IsForm (pre ++ ts) p rest
  made_sound ts p rest h =
      let a = mapped_is f (reader ts) p rest h in
      let g = sound ts a.0 rest a.1 in
      record {
        front = pre ++ g.front;
        split = ap (λ l. pre ++ l) g.split ∙ sym (append_assoc pre g.front rest);
        reads = subst (IsForm (pre ++ g.front)) a.2 (make g.front a.0 g.reads);
      }

abbrev expression_made : (pre : List Token) (f : Tree → Piece) → ((ts : List Token) (x : Tree) → IsExpr ts x → IsForm (pre ++ ts) (f x))
    → (ts : List Token) (p : Piece) (rest : List Token) → mapped f (expression ts) ≡ Some (p, rest) → Found IsForm (pre ++ ts) p rest
expression_made = made_sound Tree IsExpr expression expression_sound

-- a keyword that is a form
bare : (w : Key) (q : Piece) → IsForm (t.Key w ∷ []) q → (ts : List Token) (p : Piece) (rest : List Token) → ◌≡◌ {A = Outcome Piece} (Some (q, ts)) (Some (p, rest)) → Found IsForm (t.Key w ∷ ts) p rest
bare w q a ts p rest h = record { front = t.Key w ∷ []; split = ap (λ l. t.Key w ∷ l) (rest_is h); reads = subst (IsForm (t.Key w ∷ [])) (first_is h) a }

header_sound : (ts : List Token) (p : Piece) (rest : List Token) → mapped piece.Header (header ts) ≡ Some (p, rest) → Found IsForm (t.Key k.Algorithm ∷ ts) p rest
unfolding header header_of
header_sound ts p rest h =
    let o = mapped_is piece.Header (header ts) p rest h in
    let d = kind_at (first ts) in
    let us = behind (is_some (kind_at (first ts))) ts in
    let a = given_sound ts in
    let b = name_at_sound us in
    let vs = behind (is_some (name_at (first us))) us in
    let m = mapped_is (λ (ps : List Formal). record { name = name_at (first us); gives = d; params = ps; line = 0 }) (signature vs) o.0 rest o.1 in
    let c = signature_sound vs m.0 rest m.1 in
    let names = b.split ∙ ap (λ l. b.front ++ l) c.split ∙ sym (append_assoc b.front c.front rest) in
    record {
      front = t.Key k.Algorithm ∷ (a.front ++ (b.front ++ c.front));
      split = ap (λ l. t.Key k.Algorithm ∷ l) (a.split ∙ ap (λ l. a.front ++ l) names ∙ sym (append_assoc a.front (b.front ++ c.front) rest));
      reads = subst (IsForm (t.Key k.Algorithm ∷ (a.front ++ (b.front ++ c.front)))) (ap piece.Header m.2 ∙ o.2) (is.header a.reads b.reads c.reads);
    }

-- ---- declarations, assignments and calls

scalars_sound : (w : Key) (d : Kind) → kind_of w ≡ Some d → (ts : List Token) (p : Piece) (rest : List Token) → scalars d ts ≡ Some (p, rest) → Found IsForm (t.Key w ∷ ts) p rest
unfolding scalars
scalars_sound w d e = made_sound (List (List ℕ)) (Listed IsName) (listing name) (listing_sound (List ℕ) IsName name name_sound) (t.Key w ∷ []) (λ xs. piece.Declare (Scalars d xs)) (λ ts xs a. is.scalars e a)

tables_sound : (pre : List Token) (d : Kind) → IsKind pre (d, true) → (ts : List Token) (p : Piece) (rest : List Token) → tables d ts ≡ Some (p, rest) → Found IsForm (pre ++ ts) p rest
unfolding tables
tables_sound pre d e = made_sound (List (List ℕ × Limits)) (Listed IsTable) (listing table) (listing_sound (List ℕ × Limits) IsTable table table_sound) pre (λ xs. piece.Declare (Tables d xs)) (λ ts xs a. is.tables e a)

declaration_sound : (w : Key) (d : Kind) → kind_of w ≡ Some d → (ts : List Token) (p : Piece) (rest : List Token) → declaration d ts ≡ Some (p, rest) → Found IsForm (t.Key w ∷ ts) p rest
unfolding declaration
declaration_sound w d e ts p rest h =
    ⊎_elim
    (λ (c : (sees_key k.Table ts ≡ true) × (tables d (drop 1 ts) ≡ Some (p, rest))). subst (λ l. Found IsForm (t.Key w ∷ l) p rest) (sym (seen_key k.Table ts c.0)) (tables_sound (t.Key w ∷ t.Key k.Table ∷ []) d (is.table e) (drop 1 ts) p rest c.1))
    (λ (c : (sees_key k.Table ts ≡ false) × (scalars d ts ≡ Some (p, rest))). scalars_sound w d e ts p rest c.1)
    (chosen (sees_key k.Table ts) (tables d (drop 1 ts)) (scalars d ts) (Some (p, rest)) h)

assignment_sound : (pre : List Token) (to : Place) → ((ts : List Token) (x : Tree) → IsExpr ts x → IsForm (pre ++ t.Sign s.Assign ∷ ts) (piece.Assign to x))
    → (ts : List Token) (p : Piece) (rest : List Token) → assignment to ts ≡ Some (p, rest) → Found IsForm (pre ++ ts) p rest
unfolding assignment
assignment_sound pre to make ts p rest h =
    let n = needs s.Assign ts (mapped (λ x. piece.Assign to x) (expression (drop 1 ts))) (p, rest) h in
    let a = mapped_is (λ x. piece.Assign to x) (expression (drop 1 ts)) p rest n.1 in
    let f = expression_sound (drop 1 ts) a.0 rest a.1 in
    record {
      front = pre ++ t.Sign s.Assign ∷ f.front;
      split = ap (λ l. pre ++ l) (n.0 ∙ ap (λ l. t.Sign s.Assign ∷ l) f.split) ∙ sym (append_assoc pre (t.Sign s.Assign ∷ f.front) rest);
      reads = subst (IsForm (pre ++ t.Sign s.Assign ∷ f.front)) a.2 (make f.front a.0 f.reads);
    }

named_sound : (x : List ℕ) (ts : List Token) (p : Piece) (rest : List Token) → named_piece x ts ≡ Some (p, rest) → Found IsForm (t.Named x ∷ ts) p rest
unfolding named_piece
named_sound x ts p rest h =
    ⊎_elim
    (λ (c : (sees s.Open ts ≡ true) × (mapped (λ xs. piece.Invoke x xs) (top_arguments (drop 1 ts)) ≡ Some (p, rest))).
    let a = mapped_is (λ xs. piece.Invoke x xs) (top_arguments (drop 1 ts)) p rest c.1 in
    let f = top_arguments_sound (drop 1 ts) a.0 rest a.1 in
    record { front = t.Named x ∷ f.front; split = ap (λ l. t.Named x ∷ l) (seen s.Open ts c.0 ∙ f.split); reads = subst (IsForm (t.Named x ∷ f.front)) a.2 (is.call f.reads) })
    (λ (c : (sees s.Open ts ≡ false) × ((if sees s.OpenSquare ts then (top_indexes (drop 1 ts) >>= (λ xs. assignment (ToElement x xs.0) xs.1)) else (if sees s.Assign ts then assignment (ToScalar x) ts else Some (piece.Invoke x no_trees, ts))) ≡ Some (p, rest))).
    ⊎_elim
    (λ (d : (sees s.OpenSquare ts ≡ true) × ((top_indexes (drop 1 ts) >>= (λ xs. assignment (ToElement x xs.0) xs.1)) ≡ Some (p, rest))).
    let b = bind_ok (top_indexes (drop 1 ts)) (λ xs. assignment (ToElement x xs.0) xs.1) (p, rest) d.1 in
    let f = top_indexes_sound (drop 1 ts) b.0.0 b.0.1 b.1 in
    let g = assignment_sound (t.Named x ∷ f.front) (ToElement x b.0.0) (λ us y a. is.assign (is.element_target f.reads) a) b.0.1 p rest b.2 in
    subst (λ l. Found IsForm (t.Named x ∷ l) p rest) (sym (seen s.OpenSquare ts d.0 ∙ f.split)) g)
    (λ (d : (sees s.OpenSquare ts ≡ false) × ((if sees s.Assign ts then assignment (ToScalar x) ts else Some (piece.Invoke x no_trees, ts)) ≡ Some (p, rest))).
    ⊎_elim
    (λ (e : (sees s.Assign ts ≡ true) × (assignment (ToScalar x) ts ≡ Some (p, rest))). assignment_sound (t.Named x ∷ []) (ToScalar x) (λ us y a. is.assign is.scalar_target a) ts p rest e.1)
    (λ (e : (sees s.Assign ts ≡ false) × (Some (piece.Invoke x no_trees, ts) ≡ Some (p, rest))). record { front = t.Named x ∷ []; split = ap (λ l. t.Named x ∷ l) (rest_is e.1); reads = subst (IsForm (t.Named x ∷ [])) (first_is e.1) is.call_alone })
    (chosen (sees s.Assign ts) (assignment (ToScalar x) ts) (Some (piece.Invoke x no_trees, ts)) (Some (p, rest)) d.1))
    (chosen (sees s.OpenSquare ts) (top_indexes (drop 1 ts) >>= (λ xs. assignment (ToElement x xs.0) xs.1)) (if sees s.Assign ts then assignment (ToScalar x) ts else Some (piece.Invoke x no_trees, ts)) (Some (p, rest)) c.1))
    (chosen (sees s.Open ts) (mapped (λ xs. piece.Invoke x xs) (top_arguments (drop 1 ts))) (if sees s.OpenSquare ts then (top_indexes (drop 1 ts) >>= (λ xs. assignment (ToElement x xs.0) xs.1)) else (if sees s.Assign ts then assignment (ToScalar x) ts else Some (piece.Invoke x no_trees, ts))) (Some (p, rest)) h)

-- ---- loops

times_sound : (ts : List Token) (p : Piece) (rest : List Token) → loop_times ts ≡ Some (p, rest) → Found IsForm (t.Key k.Loop ∷ ts) p rest
unfolding loop_times
times_sound ts p rest h =
    let b = bind_ok (expression ts) (λ x. if sees_key k.Times x.1 then Some (piece.Times x.0, drop 1 x.1) else None) (p, rest) h in
    let f = expression_sound ts b.0.0 b.0.1 b.1 in
    let n = needs_key k.Times b.0.1 (Some (piece.Times b.0.0, drop 1 b.0.1)) (p, rest) b.2 in
    record {
      front = t.Key k.Loop ∷ (f.front ++ t.Key k.Times ∷ []);
      split = ap (λ l. t.Key k.Loop ∷ l) (f.split ∙ ap (λ l. f.front ++ l) (n.0 ∙ ap (λ l. t.Key k.Times ∷ l) (rest_is n.1)) ∙ sym (append_assoc f.front (t.Key k.Times ∷ []) rest));
      reads = subst (IsForm (t.Key k.Loop ∷ (f.front ++ t.Key k.Times ∷ []))) (first_is n.1) (is.loop_times f.reads);
    }

when_sound : (ts : List Token) (p : Piece) (rest : List Token) → when_case ts ≡ Some (p, rest) → Found IsForm (t.Key k.When ∷ ts) p rest
unfolding when_case
when_sound ts p rest h =
    let b = bind_ok (expression ts) (λ x. if sees s.Colon x.1 then Some (piece.When x.0, drop 1 x.1) else None) (p, rest) h in
    let f = expression_sound ts b.0.0 b.0.1 b.1 in
    let n = needs s.Colon b.0.1 (Some (piece.When b.0.0, drop 1 b.0.1)) (p, rest) b.2 in
    record {
      front = t.Key k.When ∷ (f.front ++ t.Sign s.Colon ∷ []);
      split = ap (λ l. t.Key k.When ∷ l) (f.split ∙ ap (λ l. f.front ++ l) (n.0 ∙ ap (λ l. t.Sign s.Colon ∷ l) (rest_is n.1)) ∙ sym (append_assoc f.front (t.Sign s.Colon ∷ []) rest));
      reads = subst (IsForm (t.Key k.When ∷ (f.front ++ t.Sign s.Colon ∷ []))) (first_is n.1) (is.when_case f.reads);
    }

-- the head of a counting loop behind its variable and `от`
abbrev counting : List ℕ → List Token → List Token
counting v ts = t.Key k.Loop ∷ t.Key k.For ∷ t.Named v ∷ t.Key k.From ∷ ts

stepped_sound : (v : List ℕ) (x y : Tree) (us vs : List Token) → IsExpr us x → IsExpr vs y → (ts : List Token) (p : Piece) (rest : List Token) → stepped v x y ts ≡ Some (p, rest)
    → Found IsForm (counting v (us ++ t.Key k.To ∷ (vs ++ ts))) p rest
unfolding stepped
stepped_sound v x y us vs a b ts p rest h =
    ⊎_elim
    (λ (c : (sees_key k.Step ts ≡ true) × (mapped (λ z. piece.Count v x y (Some z)) (expression (drop 1 ts)) ≡ Some (p, rest))).
    let m = mapped_is (λ z. piece.Count v x y (Some z)) (expression (drop 1 ts)) p rest c.1 in
    let f = expression_sound (drop 1 ts) m.0 rest m.1 in
    let inner : vs ++ ts ≡ (vs ++ t.Key k.Step ∷ f.front) ++ rest = ap (λ l. vs ++ l) (seen_key k.Step ts c.0 ∙ ap (λ l. t.Key k.Step ∷ l) f.split) ∙ sym (append_assoc vs (t.Key k.Step ∷ f.front) rest) in
    record {
      front = counting v (us ++ t.Key k.To ∷ (vs ++ t.Key k.Step ∷ f.front));
      split = ap (counting v) (ap (λ l. us ++ t.Key k.To ∷ l) inner ∙ sym (append_assoc us (t.Key k.To ∷ (vs ++ t.Key k.Step ∷ f.front)) rest));
      reads = subst (IsForm (counting v (us ++ t.Key k.To ∷ (vs ++ t.Key k.Step ∷ f.front)))) m.2 (is.loop_count_by a b f.reads);
    })
    (λ (c : (sees_key k.Step ts ≡ false) × (Some (piece.Count v x y None, ts) ≡ Some (p, rest))). record {
      front = counting v (us ++ t.Key k.To ∷ vs);
      split = ap (counting v) (ap (λ l. us ++ t.Key k.To ∷ (vs ++ l)) (rest_is c.1) ∙ sym (append_assoc us (t.Key k.To ∷ vs) rest));
      reads = subst (IsForm (counting v (us ++ t.Key k.To ∷ vs))) (first_is c.1) (is.loop_count a b);
    })
    (chosen (sees_key k.Step ts) (mapped (λ z. piece.Count v x y (Some z)) (expression (drop 1 ts))) (Some (piece.Count v x y None, ts)) (Some (p, rest)) h)

counted_sound : (v : List ℕ) (ts : List Token) (p : Piece) (rest : List Token) → counted v ts ≡ Some (p, rest) → Found IsForm (counting v ts) p rest
unfolding counted
counted_sound v ts p rest h =
    let b = bind_ok (expression ts) (λ x. if sees_key k.To x.1 then (expression (drop 1 x.1) >>= (λ y. stepped v x.0 y.0 y.1)) else None) (p, rest) h in
    let f = expression_sound ts b.0.0 b.0.1 b.1 in
    let n = needs_key k.To b.0.1 (expression (drop 1 b.0.1) >>= (λ y. stepped v b.0.0 y.0 y.1)) (p, rest) b.2 in
    let d = bind_ok (expression (drop 1 b.0.1)) (λ y. stepped v b.0.0 y.0 y.1) (p, rest) n.1 in
    let g = expression_sound (drop 1 b.0.1) d.0.0 d.0.1 d.1 in
    let same : ts ≡ f.front ++ t.Key k.To ∷ (g.front ++ d.0.1) = f.split ∙ ap (λ l. f.front ++ l) (n.0 ∙ ap (λ l. t.Key k.To ∷ l) g.split) in
    subst (λ l. Found IsForm (counting v l) p rest) (sym same) (stepped_sound v b.0.0 d.0.0 f.front g.front f.reads g.reads d.0.1 p rest d.2)

count_sound : (ts : List Token) (p : Piece) (rest : List Token) → loop_count ts ≡ Some (p, rest) → Found IsForm (t.Key k.Loop ∷ t.Key k.For ∷ ts) p rest
unfolding loop_count
count_sound ts p rest h =
    let b = bind_ok (name ts) (λ v. if sees_key k.From v.1 then counted v.0 (drop 1 v.1) else None) (p, rest) h in
    let n = needs_key k.From b.0.1 (counted b.0.0 (drop 1 b.0.1)) (p, rest) b.2 in
    let same : ts ≡ t.Named b.0.0 ∷ t.Key k.From ∷ drop 1 b.0.1 = name_is ts b.0.0 b.0.1 b.1 ∙ ap (λ l. t.Named b.0.0 ∷ l) n.0 in
    subst (λ l. Found IsForm (t.Key k.Loop ∷ t.Key k.For ∷ l) p rest) (sym same) (counted_sound b.0.0 (drop 1 b.0.1) p rest n.1)

loop_bare_sound : (ts : List Token) (p : Piece) (rest : List Token) → loop_bare ts ≡ Some (p, rest) → Found IsForm (t.Key k.Loop ∷ ts) p rest
loop_bare_sound [] p rest h = bare k.Loop piece.Forever is.loop_forever [] p rest h
loop_bare_sound (w ∷ ts) p rest h = times_sound (w ∷ ts) p rest h

loop_sound : (ts : List Token) (p : Piece) (rest : List Token) → loop_head ts ≡ Some (p, rest) → Found IsForm (t.Key k.Loop ∷ ts) p rest
unfolding loop_head
loop_sound ts p rest h =
    ⊎_elim
    (λ (c : (sees_key k.While ts ≡ true) × (mapped piece.While (expression (drop 1 ts)) ≡ Some (p, rest))).
    subst (λ l. Found IsForm (t.Key k.Loop ∷ l) p rest) (sym (seen_key k.While ts c.0)) (expression_made (t.Key k.Loop ∷ t.Key k.While ∷ []) piece.While (λ us x a. is.loop_while a) (drop 1 ts) p rest c.1))
    (λ (c : (sees_key k.While ts ≡ false) × ((if sees_key k.For ts then loop_count (drop 1 ts) else loop_bare ts) ≡ Some (p, rest))).
    ⊎_elim
    (λ (d : (sees_key k.For ts ≡ true) × (loop_count (drop 1 ts) ≡ Some (p, rest))). subst (λ l. Found IsForm (t.Key k.Loop ∷ l) p rest) (sym (seen_key k.For ts d.0)) (count_sound (drop 1 ts) p rest d.1))
    (λ (d : (sees_key k.For ts ≡ false) × (loop_bare ts ≡ Some (p, rest))). loop_bare_sound ts p rest d.1)
    (chosen (sees_key k.For ts) (loop_count (drop 1 ts)) (loop_bare ts) (Some (p, rest)) c.1))
    (chosen (sees_key k.While ts) (mapped piece.While (expression (drop 1 ts))) (if sees_key k.For ts then loop_count (drop 1 ts) else loop_bare ts) (Some (p, rest)) h)

loop_end_sound : (ts : List Token) (p : Piece) (rest : List Token) → loop_end ts ≡ Some (p, rest) → Found IsForm (t.Key k.LoopEnd ∷ ts) p rest
unfolding loop_end
loop_end_sound ts p rest h =
    ⊎_elim
    (λ (c : (sees_key k.When ts ≡ true) × (mapped piece.CloseWhen (expression (drop 1 ts)) ≡ Some (p, rest))).
    subst (λ l. Found IsForm (t.Key k.LoopEnd ∷ l) p rest) (sym (seen_key k.When ts c.0)) (expression_made (t.Key k.LoopEnd ∷ t.Key k.When ∷ []) piece.CloseWhen (λ us x a. is.close_when a) (drop 1 ts) p rest c.1))
    (λ (c : (sees_key k.When ts ≡ false) × (Some (piece.Close, ts) ≡ Some (p, rest))). bare k.LoopEnd piece.Close is.close ts p rest c.1)
    (chosen (sees_key k.When ts) (mapped piece.CloseWhen (expression (drop 1 ts))) (Some (piece.Close, ts)) (Some (p, rest)) h)

-- ---- all forms

uses_made : (ts : List Token) (x : List ℕ) → IsName ts x → IsForm (t.Key k.Uses ∷ ts) (piece.Uses x)
uses_made ts x is.name = is.uses

keyword_sound : (w : Key) (ts : List Token) (p : Piece) (rest : List Token) → keyword_form w ts ≡ Some (p, rest) → Found IsForm (t.Key w ∷ ts) p rest
keyword_sound k.Algorithm ts p rest h = header_sound ts p rest h
keyword_sound k.Given ts p rest h = made_sound (Option Tree) (Perhaps IsExpr) perhaps_expression perhaps_expression_sound (t.Key k.Given ∷ []) piece.Given (λ us x a. is.given a) ts p rest h
keyword_sound k.Wanted ts p rest h = made_sound (Option Tree) (Perhaps IsExpr) perhaps_expression perhaps_expression_sound (t.Key k.Wanted ∷ []) piece.Wanted (λ us x a. is.wanted a) ts p rest h
keyword_sound k.Result ts p rest h = assignment_sound (t.Key k.Result ∷ []) ToAnswer (λ us x a. is.assign_result a) ts p rest h
keyword_sound k.Loop ts p rest h = loop_sound ts p rest h
keyword_sound k.LoopEnd ts p rest h = loop_end_sound ts p rest h
keyword_sound k.LoopEndWhen ts p rest h = expression_made (t.Key k.LoopEndWhen ∷ []) piece.CloseWhen (λ us x a. is.close_when_word a) ts p rest h
keyword_sound k.If ts p rest h = expression_made (t.Key k.If ∷ []) piece.Choose (λ us x a. is.choose a) ts p rest h
keyword_sound k.Then ts p rest h = bare k.Then piece.Then is.then_branch ts p rest h
keyword_sound k.Otherwise ts p rest h = bare k.Otherwise piece.Otherwise is.otherwise ts p rest h
keyword_sound k.ChoiceEnd ts p rest h = bare k.ChoiceEnd piece.ChoiceEnd is.choice_end ts p rest h
keyword_sound k.Select ts p rest h = bare k.Select piece.Select is.select ts p rest h
keyword_sound k.When ts p rest h = when_sound ts p rest h
keyword_sound k.Begin ts p rest h = bare k.Begin piece.Begin is.begin ts p rest h
keyword_sound k.Finish ts p rest h = bare k.Finish piece.Finish is.finish ts p rest h
keyword_sound k.Assert ts p rest h = expression_made (t.Key k.Assert ∷ []) piece.Assert (λ us x a. is.assert a) ts p rest h
keyword_sound k.Leave ts p rest h = bare k.Leave piece.Leave is.leave ts p rest h
keyword_sound k.Quit ts p rest h = bare k.Quit piece.Quit is.quit ts p rest h
keyword_sound k.Uses ts p rest h = made_sound (List ℕ) IsName name name_sound (t.Key k.Uses ∷ []) piece.Uses uses_made ts p rest h
keyword_sound k.Input ts p rest h = made_sound (List Place) (Listed IsTarget) (listing target) (listing_sound Place IsTarget target target_sound) (t.Key k.Input ∷ []) piece.Input (λ us x a. is.input a) ts p rest h
keyword_sound k.Output ts p rest h = made_sound (List Shown) (Listed IsItem) (listing item) (listing_sound Shown IsItem item item_sound) (t.Key k.Output ∷ []) piece.Output (λ us x a. is.output a) ts p rest h
keyword_sound w ts p rest h = none_is h

table_or_keyword_sound : (w : Key) (ts : List Token) (o : Option Kind) → table_kind_of w ≡ o → (p : Piece) (rest : List Token) → table_or_keyword w ts o ≡ Some (p, rest) → Found IsForm (t.Key w ∷ ts) p rest
table_or_keyword_sound w ts None e p rest h = keyword_sound w ts p rest h
table_or_keyword_sound w ts (Some d) e p rest h = tables_sound (t.Key w ∷ []) d (is.table_word e) ts p rest h

key_sound : (w : Key) (ts : List Token) (o : Option Kind) → kind_of w ≡ o → (p : Piece) (rest : List Token) → kind_or_keyword w ts o ≡ Some (p, rest) → Found IsForm (t.Key w ∷ ts) p rest
key_sound w ts None e p rest h = table_or_keyword_sound w ts (table_kind_of w) refl p rest h
key_sound w ts (Some d) e p rest h = declaration_sound w d e ts p rest h

form_sound : (ts : List Token) (p : Piece) (rest : List Token) → form ts ≡ Some (p, rest) → Found IsForm ts p rest
unfolding form
form_sound [] p rest h = none_is h
form_sound (t.Key w ∷ ts) p rest h = key_sound w ts (kind_of w) refl p rest h
form_sound (t.Named x ∷ ts) p rest h = named_sound x ts p rest h
form_sound (t.Number x ∷ ts) p rest h = none_is h
form_sound (t.Literal x ∷ ts) p rest h = none_is h
form_sound (t.Sign x ∷ ts) p rest h = none_is h

over_is : (p q : Piece) (rest : List Token) → if_over p rest ≡ Some q → (rest ≡ []) × (p ≡ q)
over_is p q [] h = (refl, some_is h)
over_is p q (w ∷ ts) h = none_is h

pub whole_sound : (ts : List Token) (p : Piece) → whole ts ≡ Some p → IsForm ts p
unfolding whole
whole_sound ts p h =
    let b = bind_ok (form ts) (λ v. if_over v.0 v.1) p h in
    let f = form_sound ts b.0.0 b.0.1 b.1 in
    let o = over_is b.0.0 p b.0.1 b.2 in
    subst (λ l. IsForm l p) (sym (f.split ∙ ap (λ l. f.front ++ l) o.0 ∙ append-nil f.front)) (subst (IsForm f.front) o.1 f.reads)
