-- A line that is changed.
use Rattle.std.proofs.Common.{◌≡◌, ℕ, List, [], ◌∷◌, ◌++◌, length, get_or, set, reverse, sym, ap, ◌∙◌, arith, append_assoc}
use Rattle.std.proofs.lemmas.Grind.{common_steps}
use Rattle.std.proofs.lemmas.List.{reverse-append, reverse-reverse, length-reverse}
use Rattle.std.proofs.Math.Seq.{get_or-append_seam, set-append_seam}
use Rattle.kumir_compiler.specs.declared.pending.PendingLine.{PendingLine}
use Rattle.kumir_compiler.specs.declared.pending.Pending.{Pending}

reverse_more : (v : PendingLine) (vs : List PendingLine) → reverse (v ∷ vs) ≡ reverse vs ++ (v ∷ [])
reverse_more v vs = grind (arith, common_steps)

turned : (front behind : List PendingLine) (l : PendingLine) → reverse (front ++ l ∷ behind) ≡ reverse behind ++ l ∷ reverse front
turned front behind l = reverse-append front (l ∷ behind) ∙ ap (λ k. k ++ reverse front) (reverse_more l behind) ∙ append_assoc (reverse behind) (l ∷ []) (reverse front)

abbrev does : PendingLine → Pending → PendingLine
does l what = record { line = l.line; what = what }

pub changed : (items front behind : List PendingLine) (l m : PendingLine) (at : ℕ) (what : Pending) → reverse items ≡ front ++ l ∷ behind → length behind ≡ at → m ≡ get_or items at m → reverse (set items at (does m what)) ≡ front ++ does l what ∷ behind
changed items front behind l m at what e n is =
    let items_are : items ≡ reverse behind ++ l ∷ reverse front = sym (reverse-reverse items) ∙ ap reverse e ∙ turned front behind l in
    let place : at ≡ length (reverse behind) = sym n ∙ sym (length-reverse behind) in
    let same : m ≡ l = is ∙ ap (λ k. get_or k at m) items_are ∙ ap (λ j. get_or (reverse behind ++ l ∷ reverse front) j m) place ∙ get_or-append_seam (reverse behind) l (reverse front) m in
    ap (λ k. reverse (set k at (does m what))) items_are
    ∙ ap (λ j. reverse (set (reverse behind ++ l ∷ reverse front) j (does m what))) place
    ∙ ap reverse (set-append_seam (reverse behind) l (reverse front) (does m what))
    ∙ turned (reverse behind) (reverse front) (does m what)
    ∙ ap (λ k. k ++ does m what ∷ reverse (reverse behind)) (reverse-reverse front)
    ∙ ap (λ k. front ++ does m what ∷ k) (reverse-reverse behind)
    ∙ ap (λ k. front ++ does k what ∷ behind) same
