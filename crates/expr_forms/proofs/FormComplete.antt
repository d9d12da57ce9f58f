-- What is a form is read as one.
use Rattle.std.proofs.Common.{append-nil, ◌≡◌, ℕ, Bool, true, false, List, [], ◌∷◌, ◌++◌, drop, Some, None, ap, sym, ◌∙◌, refl}
use Rattle.kumir_tree.specs.Tree.{Tree, Trees}
use Rattle.kumir_tree.specs.Part.{Limits, Place, ToAnswer, ToScalar, ToElement, Shown, Scalars, Tables}
use Rattle.kumir_tree.specs.Piece as piece
use Rattle.kumir_tree.specs.Piece.{Piece}
use Rattle.kumir_tree.specs.declared.kind.Kind.{Kind}
use Rattle.kumir_tree.specs.declared.token.Token.{Token}
use Rattle.kumir_tree.specs.declared.token.Token.TheVariants as t
use Rattle.kumir_tree.specs.declared.token.Sign.TheVariants as s
use Rattle.kumir_tree.specs.declared.token.Key.{Key}
use Rattle.kumir_tree.specs.declared.token.Key.TheVariants as k
use Rattle.expr_forms.specs.Grammar.{IsExpr, ReadsArguments}
use Rattle.expr_forms.specs.Lists.{Listed, last, next}
use Rattle.expr_forms.specs.Forms as is
use Rattle.expr_forms.specs.Forms.{kind_of, table_kind_of, IsName, IsKind, IsTable, IsTarget, IsItem, IsForm}
use Rattle.expr_forms.specs.Looks.{mapped, sees, sees_key, same_sign, same_key}
use Rattle.expr_forms.specs.Reading.{listing, expression}
use Rattle.expr_forms.specs.PartReading.{top_arguments, top_indexes, name, table, target, item}
use Rattle.expr_forms.specs.FormReading.{scalars, tables, declaration, assignment, named_piece, loop_times, stepped, counted, loop_count, loop_head, loop_end, when_case, form, whole}
use Rattle.expr_forms.proofs.Begins.{begins, begins_some}
use Rattle.expr_forms.proofs.Complete.{stops_at_times, stops_at_to, stops_at_step, stops_at_colon, expression_complete}
use Rattle.expr_forms.proofs.PartComplete.{listing_whole, expression_whole, perhaps_expression_whole, top_arguments_complete, top_indexes_complete, name_some, name_complete, table_some, table_complete, target_some, target_complete, item_some, item_complete}
use Rattle.expr_forms.proofs.HeaderComplete.{table_no_kind, header_complete}

-- ---- declarations

name_no_table : {ts : List Token} {x : List ℕ} → IsName ts x → (rest : List Token) → sees_key k.Table (ts ++ rest) ≡ false
name_no_table is.name rest = refl

names_no_table : {ts : List Token} {xs : List (List ℕ)} → Listed IsName ts xs → sees_key k.Table ts ≡ false
names_no_table (last {ts} a) = ap (sees_key k.Table) (sym (append-nil ts)) ∙ name_no_table a []
names_no_table (next {ts} {us} a b) = name_no_table a (t.Sign s.Comma ∷ us)

kind_reads : (w : Key) (d : Kind) (ts : List Token) → kind_of w ≡ Some d → form (t.Key w ∷ ts) ≡ declaration d ts
unfolding form
kind_reads w d ts e = rw e refl

table_word_reads : (w : Key) (d : Kind) (ts : List Token) → kind_of w ≡ None → table_kind_of w ≡ Some d → form (t.Key w ∷ ts) ≡ tables d ts
unfolding form
table_word_reads w d ts none e = rw (none, e) refl

scalars_read : (d : Kind) (ts : List Token) (xs : List (List ℕ)) → sees_key k.Table ts ≡ false → listing name ts ≡ Some (xs, []) → declaration d ts ≡ Some (piece.Declare (Scalars d xs), [])
unfolding declaration scalars
scalars_read d ts xs h j = rw (h, j) refl

table_key_reads : (d : Kind) (ts : List Token) → declaration d (t.Key k.Table ∷ ts) ≡ tables d ts
unfolding declaration same_key
table_key_reads d ts = refl

tables_read : (d : Kind) (ts : List Token) (xs : List (List ℕ × Limits)) → Listed IsTable ts xs → tables d ts ≡ Some (piece.Declare (Tables d xs), [])
unfolding tables
tables_read d ts xs a = ap (mapped (λ ys. piece.Declare (Tables d ys))) (listing_whole (List ℕ × Limits) IsTable table table_some table_complete ts xs a)

tables_of_kind : {ts : List Token} {d : Kind × Bool} → IsKind ts d → d.1 ≡ true → (us : List Token) → form (ts ++ us) ≡ tables d.0 us
tables_of_kind (is.scalar e) h us = absurd (let none : ⊥ = cc in none)
tables_of_kind (is.table {w} {d} e) h us = kind_reads w d (t.Key k.Table ∷ us) e ∙ table_key_reads d us
tables_of_kind (is.table_word {w} {d} e) h us = table_word_reads w d us (table_no_kind w d e) e

-- ---- assignments and calls

assignment_reads : (p : Place) (ts : List Token) (x : Tree) → IsExpr ts x → assignment p (t.Sign s.Assign ∷ ts) ≡ Some (piece.Assign p x, [])
unfolding assignment same_sign
assignment_reads p ts x a = ap (mapped (λ y. piece.Assign p y)) (expression_whole ts x a)

element_assigned : (x : List ℕ) (us vs : List Token) (xs : Trees) → sees s.Open us ≡ false → sees s.OpenSquare us ≡ true → top_indexes (drop 1 us) ≡ Some (xs, vs) → form (t.Named x ∷ us) ≡ assignment (ToElement x xs) vs
unfolding form named_piece
element_assigned x us vs xs o h j = rw (o, h, j) refl

scalar_assigned : (x : List ℕ) (us : List Token) → form (t.Named x ∷ t.Sign s.Assign ∷ us) ≡ assignment (ToScalar x) (t.Sign s.Assign ∷ us)
unfolding form named_piece same_sign
scalar_assigned x us = refl

result_assigned : (us : List Token) → form (t.Key k.Result ∷ us) ≡ assignment ToAnswer us
unfolding form
result_assigned us = refl

assigned : {ts : List Token} {p : Place} → IsTarget ts p → (us : List Token) (x : Tree) → IsExpr us x → form (ts ++ t.Sign s.Assign ∷ us) ≡ Some (piece.Assign p x, [])
assigned (is.scalar_target {x = v}) us x a = scalar_assigned v us ∙ assignment_reads (ToScalar v) us x a
assigned (is.element_target {x = v} {ts} {xs} b) us x a =
    let c = top_indexes_complete ts xs b (t.Sign s.Assign ∷ us) in
    element_assigned v (ts ++ t.Sign s.Assign ∷ us) (t.Sign s.Assign ∷ us) xs c.no_bracket c.opens c.reads ∙ assignment_reads (ToElement v xs) us x a

call_reads : (x : List ℕ) (us : List Token) (xs : Trees) → sees s.Open us ≡ true → top_arguments (drop 1 us) ≡ Some (xs, []) → form (t.Named x ∷ us) ≡ Some (piece.Invoke x xs, [])
unfolding form named_piece
call_reads x us xs h j = rw (h, j) refl

called : (x : List ℕ) (us : List Token) (xs : Trees) → ReadsArguments us xs → form (t.Named x ∷ us) ≡ Some (piece.Invoke x xs, [])
called x us xs a =
    let c = top_arguments_complete us xs a [] in
    ap (λ l. form (t.Named x ∷ l)) (sym (append-nil us)) ∙ call_reads x (us ++ []) xs c.opens c.reads

-- ---- loops

loop_by_number : (w : Token) (us : List Token) → begins_some w ≡ true → form (t.Key k.Loop ∷ w ∷ us) ≡ loop_times (w ∷ us)
unfolding form loop_head same_key
loop_by_number (t.Key k.While) us h = absurd (let none : ⊥ = cc in none)
loop_by_number (t.Key k.For) us h = absurd (let none : ⊥ = cc in none)
loop_by_number w us h = refl

times_read : (us : List Token) (x : Tree) → expression us ≡ Some (x, t.Key k.Times ∷ []) → loop_times us ≡ Some (piece.Times x, [])
unfolding loop_times same_key
times_read us x h = rw h refl

times_complete : (ts : List Token) (x : Tree) → IsExpr ts x → form (t.Key k.Loop ∷ (ts ++ t.Key k.Times ∷ [])) ≡ Some (piece.Times x, [])
times_complete ts x a =
    let b = begins a in
    let more = t.Key k.Times ∷ [] in
    ap (λ l. form (t.Key k.Loop ∷ (l ++ more))) b.split ∙ loop_by_number b.head (b.tail ++ more) b.fits ∙ ap (λ l. loop_times (l ++ more)) (sym b.split)
    ∙ times_read (ts ++ more) x (expression_complete a more (stops_at_times []))

while_reads : (ts : List Token) → form (t.Key k.Loop ∷ t.Key k.While ∷ ts) ≡ mapped piece.While (expression ts)
unfolding form loop_head same_key
while_reads ts = refl

count_reads : (v : List ℕ) (ts : List Token) → form (t.Key k.Loop ∷ t.Key k.For ∷ t.Named v ∷ t.Key k.From ∷ ts) ≡ counted v ts
unfolding form loop_head loop_count name same_key
count_reads v ts = refl

counted_reads : (v : List ℕ) (us vs rest : List Token) (x y : Tree) → expression us ≡ Some (x, t.Key k.To ∷ vs) → expression vs ≡ Some (y, rest) → counted v us ≡ stepped v x y rest
unfolding counted same_key
counted_reads v us vs rest x y h j = rw (h, j) refl

no_step_reads : (v : List ℕ) (x y : Tree) → stepped v x y [] ≡ Some (piece.Count v x y None, [])
unfolding stepped
no_step_reads v x y = refl

step_reads : (v : List ℕ) (x y : Tree) (ts : List Token) → stepped v x y (t.Key k.Step ∷ ts) ≡ mapped (λ z. piece.Count v x y (Some z)) (expression ts)
unfolding stepped same_key
step_reads v x y ts = refl

-- ---- the others

when_reads : (us : List Token) (x : Tree) → expression us ≡ Some (x, t.Sign s.Colon ∷ []) → form (t.Key k.When ∷ us) ≡ Some (piece.When x, [])
unfolding form when_case same_sign
when_reads us x h = rw h refl

close_when_reads : (ts : List Token) → form (t.Key k.LoopEnd ∷ t.Key k.When ∷ ts) ≡ mapped piece.CloseWhen (expression ts)
unfolding form loop_end same_key
close_when_reads ts = refl

complete : {ts : List Token} {p : Piece} → IsForm ts p → form ts ≡ Some (p, [])
unfolding form loop_head loop_end named_piece name
complete (is.header a b c) = ap (mapped piece.Header) (header_complete a b c)
complete (is.given {ts} {x} a) = ap (mapped piece.Given) (perhaps_expression_whole ts x a)
complete (is.wanted {ts} {x} a) = ap (mapped piece.Wanted) (perhaps_expression_whole ts x a)
complete (is.scalars {w} {d} {ts} {xs} e a) = kind_reads w d ts e ∙ scalars_read d ts xs (names_no_table a) (listing_whole (List ℕ) IsName name name_some name_complete ts xs a)
complete (is.tables {ts} {us} {d} {xs} e a) = tables_of_kind e refl us ∙ tables_read d us xs a
complete (is.assign_result {ts} {x} a) = result_assigned (t.Sign s.Assign ∷ ts) ∙ assignment_reads ToAnswer ts x a
complete (is.assign {ts} {us} {p} {x} a b) = assigned a us x b
complete is.call_alone = refl
complete (is.call {x} {ts} {xs} a) = called x ts xs a
complete (is.loop_times {ts} {x} a) = times_complete ts x a
complete (is.loop_while {ts} {x} a) = while_reads ts ∙ ap (mapped piece.While) (expression_whole ts x a)
complete is.loop_forever = refl
complete (is.loop_count {v} {ts} {us} {x} {y} a b) =
    count_reads v (ts ++ t.Key k.To ∷ us)
    ∙ counted_reads v (ts ++ t.Key k.To ∷ us) us [] x y (expression_complete a (t.Key k.To ∷ us) (stops_at_to us)) (expression_whole us y b)
    ∙ no_step_reads v x y
complete (is.loop_count_by {v} {ts} {us} {vs} {x} {y} {z} a b c) =
    let more = us ++ t.Key k.Step ∷ vs in
    count_reads v (ts ++ t.Key k.To ∷ more)
    ∙ counted_reads v (ts ++ t.Key k.To ∷ more) more (t.Key k.Step ∷ vs) x y (expression_complete a (t.Key k.To ∷ more) (stops_at_to more)) (expression_complete b (t.Key k.Step ∷ vs) (stops_at_step vs))
    ∙ step_reads v x y vs ∙ ap (mapped (λ l. piece.Count v x y (Some l))) (expression_whole vs z c)
complete is.close = refl
complete (is.close_when {ts} {x} a) = close_when_reads ts ∙ ap (mapped piece.CloseWhen) (expression_whole ts x a)
complete (is.close_when_word {ts} {x} a) = ap (mapped piece.CloseWhen) (expression_whole ts x a)
complete (is.choose {ts} {x} a) = ap (mapped piece.Choose) (expression_whole ts x a)
complete is.then_branch = refl
complete is.otherwise = refl
complete is.choice_end = refl
complete is.select = refl
complete (is.when_case {ts} {x} a) = when_reads (ts ++ t.Sign s.Colon ∷ []) x (expression_complete a (t.Sign s.Colon ∷ []) (stops_at_colon []))
complete is.begin = refl
complete is.finish = refl
complete (is.assert {ts} {x} a) = ap (mapped piece.Assert) (expression_whole ts x a)
complete is.leave = refl
complete is.quit = refl
complete is.uses = refl
complete (is.input {ts} {ps} a) = ap (mapped piece.Input) (listing_whole Place IsTarget target target_some target_complete ts ps a)
complete (is.output {ts} {xs} a) = ap (mapped piece.Output) (listing_whole Shown IsItem item item_some item_complete ts xs a)

pub whole_complete : (ts : List Token) (p : Piece) → IsForm ts p → whole ts ≡ Some p
unfolding whole
whole_complete ts p a = let h : form ts ≡ Some (p, []) = complete a in rw h refl
