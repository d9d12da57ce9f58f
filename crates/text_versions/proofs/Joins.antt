-- Neighbouring chunks of lists that are joined.
use Rattle.std.proofs.Common.{◌≡◌, ℕ, ◌+◌, ◌-◌, ◌<◌, ◌≤◌, ◌⊎◌, inl, inr, min, List, [], ◌∷◌, ◌++◌, length, get_or, take, drop, sym, ap, ◌∙◌, refl, subst, arith, zero, suc}
use Rattle.std.specs.Prelude.{⊤}
use Rattle.std.specs.List.{splice}
use Rattle.std.proofs.lemmas.List.{drop_more, drop_all}
use Rattle.std.proofs.lemmas.Bool.{cases_lt}
use Rattle.std.proofs.lemmas.Bool.Decides.{nat_tests}
use Rattle.text_versions.specs.Chunks.{AreChunks}
use Rattle.text_versions.specs.Cuts.{AreCut, rest_of, FitsLeft, FitsRight}
use Rattle.text_versions.specs.declared.region.Region.{Region}
use Rattle.text_versions.proofs.Pieces.{few_at}
use Rattle.text_versions.proofs.Regions.{rest_is}

-- how many lines the first piece has, or that many where there is none
abbrev pub first_or : ℕ → List (List (List ℕ)) → ℕ
first_or next [] = next
first_or next (p ∷ ps) = length p

-- chunks, before a chunk of that many lines
abbrev pub AreBefore : List (List (List ℕ)) → ℕ → Type 0
AreBefore [] next = ⊤
AreBefore (p ∷ ps) next = (1 ≤ length p) × (length p ≤ 64) × (64 < length p + first_or next ps) × AreBefore ps next

pub before_from : (ps : List (List (List ℕ))) → AreChunks ps → AreBefore ps 64
before_from [] a = tt
before_from (p ∷ []) a = (a.0, a.1, a.2, tt)
before_from (p ∷ q ∷ ps) a = (a.0, a.1, a.2, before_from (q ∷ ps) a.3)

pub chunks_from : (ps : List (List (List ℕ))) → AreBefore ps 64 → AreChunks ps
chunks_from [] a = tt
chunks_from (p ∷ []) a = (a.0, a.1, a.2, tt)
chunks_from (p ∷ q ∷ ps) a = (a.0, a.1, a.2, chunks_from (q ∷ ps) a.3)

pub before_append : (ps qs : List (List (List ℕ))) (next : ℕ) → AreBefore ps (first_or next qs) → AreBefore qs next → AreBefore (ps ++ qs) next
before_append [] qs next a b = b
before_append (p ∷ []) qs next a b = (a.0, a.1, a.2, b)
before_append (p ∷ p' ∷ ps) qs next a b = (a.0, a.1, a.2, before_append (p' ∷ ps) qs next a.3 b)

pub before_take : (i : ℕ) (ps : List (List (List ℕ))) (next : ℕ) → AreBefore ps next → AreBefore (take i ps) (first_or next (drop i ps))
before_take zero ps next a = tt
before_take (suc i) [] next a = tt
before_take (suc zero) (p ∷ ps) next a = (a.0, a.1, a.2, tt)
before_take (suc (suc i)) (p ∷ []) next a = (a.0, a.1, a.2, tt)
before_take (suc (suc i)) (p ∷ q ∷ ps) next a = (a.0, a.1, a.2, before_take (suc i) (q ∷ ps) next a.3)

pub before_drop : (i : ℕ) (ps : List (List (List ℕ))) (next : ℕ) → AreBefore ps next → AreBefore (drop i ps) next
before_drop zero ps next a = a
before_drop (suc i) [] next a = tt
before_drop (suc i) (p ∷ ps) next a = before_drop i ps next a.3

-- another chunk behind the first ones
pub before_other : (i : ℕ) (ps : List (List (List ℕ))) (next other : ℕ) → AreBefore (take i ps) next → i ≤ length ps → ((k : ℕ) → i ≡ suc k → 64 < length (get_or ps k []) + other) → AreBefore (take i ps) other
before_other zero ps next other a h last = tt
before_other (suc i) [] next other a h last = absurd (omega arith)
before_other (suc zero) (p ∷ ps) next other a h last = (a.0, a.1, last zero refl, tt)
before_other (suc (suc i)) (p ∷ []) next other a h last = absurd (omega arith)
before_other (suc (suc i)) (p ∷ q ∷ ps) next other a h last = (a.0, a.1, a.2, before_other (suc i) (q ∷ ps) next other a.3 (omega arith) (λ k e. last (suc k) (ap suc e)))

-- lines that are cut
pub cut_first : (ps : List (List (List ℕ))) (count next : ℕ) → AreCut ps count → 0 < count → first_or next ps ≡ min 64 count
cut_first [] count next cut some = absurd (omega arith)
cut_first (p ∷ ps) count next cut some = cut.1

pub cut_before : (ps : List (List (List ℕ))) (count next : ℕ) → AreCut ps count → (0 < count → 64 < rest_of count + next) → AreBefore ps next
cut_before [] count next cut fits = tt
cut_before (p ∷ []) count next cut fits =
    let some = cut.0 in
    let size = cut.1 in
    let none = cut.2 in
    let rest = rest_is count 0 count (omega arith) (omega arith) (omega arith) in
    let fits' = fits (omega arith) in
    (some, omega arith, omega arith, tt)
cut_before (p ∷ q ∷ ps) count next cut fits =
    let size = cut.1 in
    let some' = cut.2.0 in
    let size' = cut.2.1 in
    let rest : rest_of (count - 64) ≡ rest_of count = rest_less count (omega arith) in
    (cut.0, omega arith, omega arith, cut_before (q ∷ ps) (count - 64) next cut.2 (λ s. subst (λ n. 64 < n + next) (sym rest) (fits (omega arith))))
  where
    rest_less : (count : ℕ) → 64 < count → rest_of (count - 64) ≡ rest_of count
    rest_less count many = grind (arith, nat_tests)

-- lines that are cut are chunks
pub cut_chunks : (ps : List (List (List ℕ))) (count : ℕ) → AreCut ps count → AreChunks ps
cut_chunks ps count cut = chunks_from ps (cut_before ps count 64 cut (λ some. rest_some count some))
  where
    rest_some : (count : ℕ) → 0 < count → 64 < rest_of count + 64
    rest_some count some = grind (arith, nat_tests)

-- the first piece from a place of the list on
first_at : (i : ℕ) (ps : List (List (List ℕ))) (next : ℕ) → i < length ps → first_or next (drop i ps) ≡ length (get_or ps i [])
first_at i ps next h = ap (first_or next) (drop_more ps i [] h)

first-append : (next : ℕ) (ps qs : List (List (List ℕ))) → first_or next (ps ++ qs) ≡ first_or (first_or next qs) ps
first-append next [] qs = refl
first-append next (p ∷ ps) qs = refl

-- what is left of lines behind pieces of 64
rest_some : (count : ℕ) → 0 < count → 1 ≤ rest_of count
rest_some count some = grind (arith, nat_tests)

rest_none : (count : ℕ) → count ≡ 0 → rest_of count ≡ 0
rest_none count none = grind (arith, nat_tests)

-- the piece behind the region is too large for what is left
right_before : (ps : List (List (List ℕ))) (r : Region) (count : ℕ) → FitsRight ps r count → 0 < count → (r.last < length ps) ⊎ (length ps ≤ r.last) → 64 < rest_of count + first_or 64 (drop r.last ps)
right_before ps r count right some (inl l) =
    let here = right l in
    let first = first_at r.last ps 64 l in
    omega arith
right_before ps r count right some (inr l) =
    let rest = rest_some count some in
    let first = ap (first_or 64) (drop_all r.last ps l) in
    omega arith

left_before : (ps : List (List (List ℕ))) (r : Region) (count k : ℕ) → FitsLeft ps r count → r.first ≡ suc k → 64 < length (get_or ps k []) + min 64 count
left_before ps r count k left e =
    let here = left (omega arith) in
    let same : length (get_or ps (r.first - 1) []) ≡ length (get_or ps k []) = ap (λ i. length (get_or ps i [])) (omega arith) in
    omega arith

spliced_some : (ps ms : List (List (List ℕ))) (r : Region) (count : ℕ) → AreChunks ps → r.first ≤ r.last → r.last ≤ length ps → AreCut ms count → FitsLeft ps r count → FitsRight ps r count → 0 < count → AreChunks (splice ps r.first r.last ms)
spliced_some ps ms r count a order within cut left right some =
    let all = before_from ps a in
    let next = first_or 64 (drop r.last ps) in
    let cut' = cut_before ms count next cut (λ s. right_before ps r count right s (cases_lt r.last (length ps))) in
    let behind = before_append ms (drop r.last ps) 64 cut' (before_drop r.last ps 64 all) in
    let front = before_other r.first ps (first_or 64 (drop r.first ps)) (min 64 count) (before_take r.first ps 64 all) (omega arith) (λ k e. left_before ps r count k left e) in
    let first = first-append 64 ms (drop r.last ps) ∙ cut_first ms count next cut some in
    chunks_from (splice ps r.first r.last ms) (before_append (take r.first ps) (ms ++ drop r.last ps) 64 (subst (AreBefore (take r.first ps)) (sym first) front) behind)

no_pieces : (ms : List (List (List ℕ))) (count : ℕ) → AreCut ms count → count ≡ 0 → ms ≡ []
no_pieces [] count cut none = refl
no_pieces (p ∷ ps) count cut none =
    let some = cut.0 in
    let size = cut.1 in
    absurd (omega arith)

spliced_none : (ps ms : List (List (List ℕ))) (r : Region) (count : ℕ) → AreChunks ps → r.first ≤ r.last → r.last ≤ length ps → AreCut ms count → FitsLeft ps r count → FitsRight ps r count → count ≡ 0 → AreChunks (splice ps r.first r.last ms)
spliced_none ps ms r count a order within cut left right none =
    let front : take r.first ps ≡ [] = ap (λ k. take k ps) (none_before ps r count a order within left none (cases_lt 0 r.first)) in
    let behind : drop r.last ps ≡ [] = drop_all r.last ps (none_behind ps r count a right none (cases_lt r.last (length ps))) in
    let empty : splice ps r.first r.last ms ≡ [] = ap (λ l. l ++ (ms ++ drop r.last ps)) front ∙ ap (λ l. l ++ drop r.last ps) (no_pieces ms count cut none) ∙ behind in
    subst AreChunks (sym empty) tt
  where
    none_before : (ps : List (List (List ℕ))) (r : Region) (count : ℕ) → AreChunks ps → r.first ≤ r.last → r.last ≤ length ps → FitsLeft ps r count → count ≡ 0 → (0 < r.first) ⊎ (r.first ≤ 0) → r.first ≡ 0
    none_before ps r count a order within left none (inl l) =
        let here = left l in
        let few = few_at ps (r.first - 1) a (omega arith) in
        absurd (omega arith)
    none_before ps r count a order within left none (inr l) = omega arith

    none_behind : (ps : List (List (List ℕ))) (r : Region) (count : ℕ) → AreChunks ps → FitsRight ps r count → count ≡ 0 → (r.last < length ps) ⊎ (length ps ≤ r.last) → length ps ≤ r.last
    none_behind ps r count a right none (inl l) =
        let here = right l in
        let few = few_at ps r.last a l in
        let rest = rest_none count none in
        absurd (omega arith)
    none_behind ps r count a right none (inr l) = l

-- lines that are cut, in the place of a region with which they fit
pub spliced_chunks : (ps ms : List (List (List ℕ))) (r : Region) (count : ℕ) → AreChunks ps → r.first ≤ r.last → r.last ≤ length ps → AreCut ms count → FitsLeft ps r count → FitsRight ps r count → AreChunks (splice ps r.first r.last ms)
spliced_chunks ps ms r count a order within cut left right = either ps ms r count a order within cut left right (cases_lt 0 count)
  where
    either : (ps ms : List (List (List ℕ))) (r : Region) (count : ℕ) → AreChunks ps → r.first ≤ r.last → r.last ≤ length ps → AreCut ms count → FitsLeft ps r count → FitsRight ps r count → (0 < count) ⊎ (count ≤ 0) → AreChunks (splice ps r.first r.last ms)
    either ps ms r count a order within cut left right (inl l) = spliced_some ps ms r count a order within cut left right l
    either ps ms r count a order within cut left right (inr l) = spliced_none ps ms r count a order within cut left right (omega arith)
