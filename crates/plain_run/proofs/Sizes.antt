-- A text has at most one line more than bytes, and no line is longer than the text.
use Rattle.std.proofs.Common.{◌≡◌, ℕ, zero, suc, ◌+◌, ◌-◌, ◌<◌, ◌≤◌, Bool, true, false, cond, ◌==◌, ◌&&◌, List, [], ◌∷◌, length, take, drop, get_or, map, arith, sym, ap, ◌∙◌, refl}
use Rattle.std.specs.List.{slice_split, onto_first}
use Rattle.std.specs.Str.Lines.{lines, lines_of_parts, strip_carriage_return}
use Rattle.std.proofs.lemmas.List.{length-map, get_or-map, length-take, length-drop}
use Rattle.kumir_tree.specs.Lines.{without_mark}
use Rattle.plain_run.specs.Feeds.{weight}

weight_onto : (x n : ℕ) (parts : List (List ℕ)) → weight parts ≡ n + 1 → weight (onto_first x parts) ≡ n + 2
weight_onto x n [] e = absurd (omega arith)
weight_onto x n (p ∷ ps) e = omega arith

weight_split : (p : ℕ → Bool) (bs : List ℕ) → weight (slice_split p bs) ≡ length bs + 1
weight_split p [] = omega arith
weight_split p (b ∷ bs) =
    elim (p b) as (λ t. weight (cond t ([] ∷ slice_split p bs) (onto_first b (slice_split p bs))) ≡ suc (length bs) + 1) [
      | true ↦ omega (arith, weight_split p bs)
      | false ↦ omega (arith, weight_onto b (length bs) (slice_split p bs) (weight_split p bs))
    ]

strip_fits : (l : List ℕ) → length (strip_carriage_return l) ≤ length l
strip_fits l =
    elim (get_or l (length l - 1) 0 == 13) as (λ t. length (cond t (take (length l - 1) l) l) ≤ length l) [
      | true ↦ omega (arith, length-take (length l - 1) l)
      | false ↦ omega arith
    ]

weight_parts : (parts : List (List ℕ)) → weight (lines_of_parts parts) ≤ weight parts
weight_parts [] = omega arith
weight_parts (x ∷ []) = elim (length x == 0) as (λ t. weight (cond t [] (x ∷ [])) ≤ length x + 1 + 0) [ true ↦ omega arith | false ↦ omega arith ]
weight_parts (x ∷ y ∷ more) = omega (arith, strip_fits x, weight_parts (y ∷ more))

pub weight_lines : (bs : List ℕ) → weight (lines bs) ≤ length bs + 1
weight_lines bs = omega (arith, weight_parts (slice_split (λ b. b == 10) bs), weight_split (λ b. b == 10) bs)

count_fits : (ls : List (List ℕ)) → length ls ≤ weight ls
count_fits [] = omega arith
count_fits (l ∷ ls) = omega (arith, count_fits ls)

member_fits : (ls : List (List ℕ)) (k : ℕ) (d : List ℕ) → k < length ls → length (get_or ls k d) ≤ weight ls
member_fits [] k d lt = absurd (omega arith)
member_fits (l ∷ ls) zero d lt = omega arith
member_fits (l ∷ ls) (suc k) d lt = let less : k < length ls = omega arith in omega (arith, member_fits ls k d less)

-- ---- pieces that show the lines of a text

pub few_pieces : {X : Type 0} (now : X → List ℕ) (pieces : List X) (text : List ℕ) → map now pieces ≡ lines text → length pieces ≤ length text + 1
few_pieces now pieces text e = omega (arith, length-map pieces now, ap (λ (l : List (List ℕ)). length l) e, count_fits (lines text), weight_lines text)

pub short_pieces : {X : Type 0} (now : X → List ℕ) (pieces : List X) (text : List ℕ) → map now pieces ≡ lines text → (k : ℕ) (d : X) → k < length pieces → length (now (get_or pieces k d)) ≤ length text + 1
short_pieces now pieces text e k d lt =
    let inside : k < length (lines text) = omega (arith, length-map pieces now, ap (λ (l : List (List ℕ)). length l) e) in
    let same : get_or (lines text) k [] ≡ now (get_or pieces k d) = ap (λ (l : List (List ℕ)). get_or l k []) (sym e) ∙ get_or-map now pieces k d [] lt in
    omega (arith, ap (λ (l : List ℕ). length l) same, member_fits (lines text) k [] inside, weight_lines text)

pub unmarked_fits : (text : List ℕ) → length (without_mark text) ≤ length text
unmarked_fits text =
    elim (get_or text 0 0 == 239 && get_or text 1 0 == 187 && get_or text 2 0 == 191) as (λ t. length (cond t (drop 3 text) text) ≤ length text) [
      | true ↦ omega (arith, length-drop 3 text)
      | false ↦ omega arith
    ]

pub seen_lines : {X : Type 0} (see : List ℕ → List ℕ) (now : X → List ℕ) (pieces : List X) → map (λ piece. see (now piece)) pieces ≡ map see (map now pieces)
seen_lines see now [] = refl
seen_lines see now (p ∷ ps) = ap (λ l. see (now p) ∷ l) (seen_lines see now ps)
