-- Beginnings of lists.
use Rattle.std.proofs.Common.{◌≡◌, ◌+◌, ◌≤◌, List, [], ◌∷◌, ◌++◌, take, length, sym, ap, ◌∙◌, arith, append-nil}
use Rattle.std.proofs.lemmas.List.{length-append, append_assoc}
use Rattle.std.proofs.Math.Seq.{take-append_seam, take-append-add}
use Rattle.kumir_meaning.specs.Runs.{IsPrefix}

pub itself : {A : Type 0} (xs : List A) → IsPrefix xs xs
itself xs = ([], sym (append-nil xs))

pub longer : {A : Type 0} (xs ys zs : List A) → IsPrefix xs ys → IsPrefix ys zs → IsPrefix xs zs
longer xs ys zs b d = (b.0 ++ d.0, d.1 ∙ ap (λ l. l ++ d.0) b.1 ∙ append_assoc xs b.0 d.0)

-- a beginning that is no shorter is the whole list
pub whole : {A : Type 0} (xs ys : List A) → IsPrefix xs ys → length ys ≤ length xs → xs ≡ ys
whole xs ys ([], e) le = sym (append-nil xs) ∙ sym e
whole xs ys (m ∷ more, e) le =
    let n : length ys ≡ length xs + length (m ∷ more) = ap length e ∙ length-append xs (m ∷ more) in
    absurd (omega (arith, n, le))

-- a list that goes on behind a first list with one more, and begins with a list so long, begins with both
pub one_more : {A : Type 0} (xs ys zs : List A) (a : A) → IsPrefix zs (xs ++ a ∷ ys) → length zs ≡ length xs + 1 → zs ≡ xs ++ a ∷ []
one_more xs ys zs a b n =
    sym (take-append_seam zs b.0) ∙ ap (take (length zs)) (sym b.1) ∙ ap (λ k. take k (xs ++ a ∷ ys)) n ∙ take-append-add xs (a ∷ ys) 1
