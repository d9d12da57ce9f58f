-- Lists in pieces.
use Rattle.std.proofs.Common.{◌≡◌, ℕ, ◌+◌, ◌*◌, ◌/◌, ◌<◌, ◌≤◌, List, [], ◌∷◌, ◌++◌, length, get_or, take, drop, sym, ap, ◌∙◌, arith, length-append, zero, suc, add-one}
use Rattle.std.specs.Arc.{arc_value}
use Rattle.std.specs.declared.sync.Arc.{Arc}
use Rattle.std.proofs.lemmas.List.{append-nil, length-map, map_push, get_or-map, take-append-drop, take_more, drop_more}
use Rattle.std.proofs.lemmas.List.Concat.{flat_map-append}
use Rattle.text_versions.specs.Chunks.{pieces_in, joined, lines_in, AreChunks}

-- a chunk that stands in the list
pub piece_at : {Z : Type 0} (chunks : List (Arc (List (List ℕ)) Z)) (i : ℕ) (chunk : Arc (List (List ℕ)) Z) → i < length chunks → chunk ≡ get_or chunks i chunk → arc_value chunk ≡ get_or (pieces_in chunks) i []
piece_at chunks i chunk h is = ap arc_value is ∙ sym (get_or-map arc_value chunks i chunk [] h)

pub count_of_pieces : {Z : Type 0} (chunks : List (Arc (List (List ℕ)) Z)) → length (pieces_in chunks) ≡ length chunks
count_of_pieces chunks = length-map chunks arc_value

pub joined-append : (ps qs : List (List (List ℕ))) → joined (ps ++ qs) ≡ joined ps ++ joined qs
joined-append ps qs = flat_map-append (λ p. p) ps qs

-- the lines are those of the first pieces and those of the others
pub joined_split : (i : ℕ) (ps : List (List (List ℕ))) → joined ps ≡ joined (take i ps) ++ joined (drop i ps)
joined_split i ps = ap joined (sym (take-append-drop i ps)) ∙ joined-append (take i ps) (drop i ps)

pub count_split : (i : ℕ) (ps : List (List (List ℕ))) → length (joined ps) ≡ length (joined (take i ps)) + length (joined (drop i ps))
count_split i ps = ap length (joined_split i ps) ∙ length-append (joined (take i ps)) (joined (drop i ps))

-- one piece more
pub count_more : (ps : List (List (List ℕ))) (i : ℕ) → i < length ps → length (joined (take (i + 1) ps)) ≡ length (joined (take i ps)) + length (get_or ps i [])
count_more ps i h =
    ap length (ap joined (take_more ps i [] h) ∙ joined-append (take i ps) (get_or ps i [] ∷ []))
    ∙ length-append (joined (take i ps)) (joined (get_or ps i [] ∷ []))
    ∙ ap (λ n. length (joined (take i ps)) + n) (ap length (append-nil (get_or ps i [])))

pub some_at : (ps : List (List (List ℕ))) (i : ℕ) → AreChunks ps → i < length ps → 1 ≤ length (get_or ps i [])
some_at [] i a h = absurd (omega arith)
some_at (p ∷ ps) zero a h = a.0
some_at (p ∷ ps) (suc i) a h = some_at ps i a.3 (omega arith)

pub few_at : (ps : List (List (List ℕ))) (i : ℕ) → AreChunks ps → i < length ps → length (get_or ps i []) ≤ 64
few_at [] i a h = absurd (omega arith)
few_at (p ∷ ps) zero a h = a.1
few_at (p ∷ ps) (suc i) a h = few_at ps i a.3 (omega arith)

-- neighbours
many_behind : (ps : List (List (List ℕ))) (i : ℕ) → AreChunks ps → suc i < length ps → 64 < length (get_or ps i []) + length (get_or ps (suc i) [])
many_behind [] i a h = absurd (omega arith)
many_behind (p ∷ []) i a h = absurd (omega arith)
many_behind (p ∷ q ∷ ps) zero a h = a.2
many_behind (p ∷ q ∷ ps) (suc i) a h = many_behind (q ∷ ps) i a.3 (omega arith)

pub many_at : (ps : List (List (List ℕ))) (i : ℕ) → AreChunks ps → i + 1 < length ps → 64 < length (get_or ps i []) + length (get_or ps (i + 1) [])
many_at ps i a h = rw add-one (many_behind ps i a (omega arith))

-- the lines up to and with one more chunk
pub lines_with : {Z : Type 0} (chunks : List (Arc (List (List ℕ)) Z)) (i n : ℕ) → i < length chunks → n ≡ length (get_or (pieces_in chunks) i []) → length (joined (take (i + 1) (pieces_in chunks))) ≡ length (joined (take i (pieces_in chunks))) + n
lines_with chunks i n h e = rw e (count_more (pieces_in chunks) i (omega (arith, count_of_pieces chunks)))

-- no more than all of them
pub lines_within : {Z : Type 0} (chunks : List (Arc (List (List ℕ)) Z)) (i : ℕ) → length (joined (take i (pieces_in chunks))) ≤ length (joined (pieces_in chunks))
lines_within chunks i = omega (arith, count_split i (pieces_in chunks))

-- the lines from a chunk of the list on
pub lines_from : {Z : Type 0} (chunks : List (Arc (List (List ℕ)) Z)) (i : ℕ) (chunk : Arc (List (List ℕ)) Z) (lines : List (List ℕ)) → i < length chunks → chunk ≡ get_or chunks i chunk → lines ≡ arc_value chunk → lines_in (drop i chunks) ≡ lines ++ lines_in (drop (i + 1) chunks)
lines_from chunks i chunk lines h is shown =
    ap lines_in (drop_more chunks i chunk h) ∙ ap (λ p. p ++ lines_in (drop (i + 1) chunks)) (sym (shown ∙ ap arc_value is))

-- one chunk more that is shared
pub shared_more : {Z : Type 0} (chunks shared : List (Arc (List (List ℕ)) Z)) (i : ℕ) (chunk other : Arc (List (List ℕ)) Z) → i < length chunks → chunk ≡ get_or chunks i chunk → arc_value other ≡ arc_value chunk → pieces_in shared ≡ take i (pieces_in chunks) → pieces_in (shared ++ other ∷ []) ≡ take (i + 1) (pieces_in chunks)
shared_more chunks shared i chunk other h is same far =
    map_push arc_value shared other
    ∙ ap (λ ps. ps ++ arc_value other ∷ []) far
    ∙ ap (λ p. take i (pieces_in chunks) ++ p ∷ []) (same ∙ piece_at chunks i chunk h is)
    ∙ sym (take_more (pieces_in chunks) i [] (omega (arith, count_of_pieces chunks)))

-- the lines up to a chunk of the list, and with it
pub lines_upto : {Z : Type 0} (chunks : List (Arc (List (List ℕ)) Z)) (i : ℕ) (chunk : Arc (List (List ℕ)) Z) → i < length chunks → chunk ≡ get_or chunks i chunk → lines_in (take (i + 1) chunks) ≡ lines_in (take i chunks) ++ arc_value chunk
lines_upto chunks i chunk h is =
    ap lines_in (take_more chunks i chunk h)
    ∙ ap joined (map_push arc_value (take i chunks) (get_or chunks i chunk))
    ∙ joined-append (pieces_in (take i chunks)) (arc_value (get_or chunks i chunk) ∷ [])
    ∙ ap (λ p. lines_in (take i chunks) ++ p) (append-nil (arc_value (get_or chunks i chunk)) ∙ sym (ap arc_value is))

-- each two neighbours have 65 lines at least
pub few_chunks : (ps : List (List (List ℕ))) → AreChunks ps → 65 * (length ps / 2) ≤ length (joined ps)
few_chunks [] a = omega arith
few_chunks (p ∷ []) a = omega arith
few_chunks (p ∷ q ∷ ps) a =
    let rest = few_chunks ps a.3.3 in
    let two = a.2 in
    let first = length-append p (q ++ joined ps) in
    let second = length-append q (joined ps) in
    omega arith
