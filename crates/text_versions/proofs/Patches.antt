-- What an edit puts in the place of chunks.
use Rattle.std.proofs.Common.{◌≡◌, ℕ, ◌+◌, ◌-◌, ◌<◌, ◌≤◌, List, [], ◌++◌, length, get_or, take, drop, sym, ap, ◌∙◌, subst, arith, append_assoc, length-append, length-take-le, length-drop}
use Rattle.std.specs.Prelude.{slice_range}
use Rattle.std.specs.Str.{encode_utf8_all}
use Rattle.std.specs.Arc.{arc_value}
use Rattle.std.specs.declared.sync.Arc.{Arc}
use Rattle.std.proofs.lemmas.List.{take-append-drop, take-append-le, drop-append-le, take_rest, take-map, drop-map}
use Rattle.std.proofs.Math.Seq.{take-append-add, drop-append-add}
use Rattle.std.proofs.lemmas.List.Edits.{split_between}
use Rattle.std.proofs.lemmas.List.Sums.{sum_by-append}
use Rattle.text_versions.specs.Texts.{ended_bytes}
use Rattle.text_versions.specs.Chunks.{pieces_in, joined, lines_in}
use Rattle.text_versions.specs.Cuts.{IsRegion, kept_count, FitsLeft, FitsRight}
use Rattle.text_versions.specs.Patches.{region_lines, IsPatch}
use Rattle.text_versions.specs.Edits.{edited}
use Rattle.text_versions.specs.declared.edit.Edit.{Edit}
use Rattle.text_versions.specs.declared.region.Region.{Region}
use Rattle.text_versions.specs.declared.patch.Patch.{Patch}
use Rattle.text_versions.proofs.Pieces.{joined-append, count_split, lines_upto}

-- the chunks of a part of the list
pub pieces_between : {Z : Type 0} (chunks : List (Arc (List (List ℕ)) Z)) (i j : ℕ) → pieces_in (slice_range chunks i j) ≡ slice_range (pieces_in chunks) i j
pieces_between chunks i j = sym (take-map arc_value (j - i) (drop i chunks)) ∙ ap (take (j - i)) (sym (drop-map arc_value i chunks))

-- the lines are those before the region, in it and behind it
pub in_three : (ps : List (List (List ℕ))) (r : Region) → r.first ≤ r.last → joined ps ≡ joined (take r.first ps) ++ (region_lines ps r ++ joined (drop r.last ps))
in_three ps r order =
    ap joined (split_between ps r.first r.last order)
    ∙ joined-append (take r.first ps) (slice_range ps r.first r.last ++ drop r.last ps)
    ∙ ap (λ l. joined (take r.first ps) ++ l) (joined-append (slice_range ps r.first r.last) (drop r.last ps))

-- how many lines the region has
pub region_count : (ps : List (List (List ℕ))) (from to : ℕ) (r : Region) → IsRegion ps from to r → r.start + length (region_lines ps r) ≡ r.end
region_count ps from to r is =
    let whole = ap length (in_three ps r is.order) in
    let outer = length-append (joined (take r.first ps)) (region_lines ps r ++ joined (drop r.last ps)) in
    let inner = length-append (region_lines ps r) (joined (drop r.last ps)) in
    let split = count_split r.last ps in
    let start = is.start_is in
    let end = is.end_is in
    omega arith

-- the lines before a line of the middle part, and those from it on
take_in : (a b c : List (List ℕ)) (start from : ℕ) → length a ≡ start → start ≤ from → from ≤ start + length b → take from (a ++ (b ++ c)) ≡ a ++ take (from - start) b
take_in a b c start from e h k =
    let there : from ≡ length a + (from - start) = omega arith in
    ap (λ n. take n (a ++ (b ++ c))) there
    ∙ take-append-add a (b ++ c) (from - start)
    ∙ ap (λ l. a ++ l) (take-append-le (from - start) b c (omega arith))

drop_in : (a b c : List (List ℕ)) (start to : ℕ) → length a ≡ start → start ≤ to → to ≤ start + length b → drop to (a ++ (b ++ c)) ≡ drop (to - start) b ++ c
drop_in a b c start to e h k =
    let there : to ≡ length a + (to - start) = omega arith in
    ap (λ n. drop n (a ++ (b ++ c))) there
    ∙ drop-append-add a (b ++ c) (to - start)
    ∙ drop-append-le (to - start) b c (omega arith)

-- a part up to a place, and a part up to the end
part_to : (b : List (List ℕ)) (n : ℕ) → slice_range b 0 n ≡ take n b
part_to b n = ap (λ k. take k b) (omega arith)

part_from : (b : List (List ℕ)) (n m : ℕ) → length b ≡ m → slice_range b n m ≡ drop n b
part_from b n m e = ap (λ k. take (k - n) (drop n b)) (sym e) ∙ take_rest b n

shuffled : (a x l y c : List (List ℕ)) → a ++ ((x ++ l ++ y) ++ c) ≡ (a ++ x) ++ l ++ (y ++ c)
shuffled a x l y c = simp append_assoc

in_place : (t a b c : List (List ℕ)) (e : Edit) (lines : List (List ℕ)) (start end : ℕ) → t ≡ a ++ (b ++ c) → length a ≡ start → start + length b ≡ end → start ≤ e.from - 1 → e.from - 1 + e.count ≤ end → lines ≡ slice_range b 0 (e.from - 1 - start) ++ e.lines ++ slice_range b (e.from - 1 + e.count - start) (end - start) → a ++ (lines ++ c) ≡ edited t e
in_place t a b c e lines start end whole before count from to are =
    let front : take (e.from - 1) t ≡ a ++ take (e.from - 1 - start) b = ap (take (e.from - 1)) whole ∙ take_in a b c start (e.from - 1) before from (omega arith) in
    let back : drop (e.from - 1 + e.count) t ≡ drop (e.from - 1 + e.count - start) b ++ c = ap (drop (e.from - 1 + e.count)) whole ∙ drop_in a b c start (e.from - 1 + e.count) before (omega arith) (omega arith) in
    let first = part_to b (e.from - 1 - start) in
    let last = part_from b (e.from - 1 + e.count - start) (end - start) (omega arith) in
    ap (λ l. a ++ (l ++ c)) (are ∙ ap (λ x. x ++ e.lines ++ slice_range b (e.from - 1 + e.count - start) (end - start)) first ∙ ap (λ y. take (e.from - 1 - start) b ++ e.lines ++ y) last)
    ∙ shuffled a (take (e.from - 1 - start) b) e.lines (drop (e.from - 1 + e.count - start) b) c
    ∙ sym (ap (λ x. x ++ e.lines ++ drop (e.from - 1 + e.count) t) front ∙ ap (λ y. (a ++ take (e.from - 1 - start) b) ++ e.lines ++ y) back)

-- the patch between what stands before and behind its region makes the edited text
pub patched : (ps : List (List (List ℕ))) (e : Edit) (patch : Patch) → IsPatch ps e patch → joined (take patch.region.first ps) ++ (patch.lines.items ++ joined (drop patch.region.last ps)) ≡ edited (joined ps) e
patched ps e patch is =
    in_place (joined ps) (joined (take patch.region.first ps)) (region_lines ps patch.region) (joined (drop patch.region.last ps)) e patch.lines.items patch.region.start patch.region.end
    (in_three ps patch.region is.region.order) (sym is.region.start_is) (region_count ps (e.from - 1) (e.from - 1 + e.count) patch.region is.region) is.region.before is.region.after is.lines

-- how many lines the patch has
pub patch_count : (b lines added : List (List ℕ)) (from to : ℕ) (r : Region) → r.start + length b ≡ r.end → r.start ≤ from → from ≤ r.end → r.start ≤ to → to ≤ r.end → lines ≡ slice_range b 0 (from - r.start) ++ added ++ slice_range b (to - r.start) (r.end - r.start) → length lines ≡ kept_count from to r + length added
patch_count b lines added from to r count before from_in to_in after are =
    let first = ap length (part_to b (from - r.start)) ∙ length-take-le (from - r.start) b (omega arith) in
    let last = ap length (part_from b (to - r.start) (r.end - r.start) (omega arith)) ∙ length-drop (to - r.start) b in
    let outer = length-append (slice_range b 0 (from - r.start) ++ added) (slice_range b (to - r.start) (r.end - r.start)) in
    let inner = length-append (slice_range b 0 (from - r.start)) added in
    let whole = ap length are in
    omega arith

-- the lines that are copied are a patch
pub is_patch : (ps : List (List (List ℕ))) (e : Edit) (patch : Patch) → IsRegion ps (e.from - 1) (e.from - 1 + e.count) patch.region → kept_count (e.from - 1) (e.from - 1 + e.count) patch.region ≤ 254 → FitsLeft ps patch.region (kept_count (e.from - 1) (e.from - 1 + e.count) patch.region + length e.lines) → FitsRight ps patch.region (kept_count (e.from - 1) (e.from - 1 + e.count) patch.region + length e.lines) → patch.lines.items ≡ slice_range (region_lines ps patch.region) 0 (e.from - 1 - patch.region.start) ++ e.lines ++ slice_range (region_lines ps patch.region) (e.from - 1 + e.count - patch.region.start) (patch.region.end - patch.region.start) → IsPatch ps e patch
is_patch ps e patch is few left right are =
    let r = patch.region in
    let before = is.before in
    let after = is.after in
    let count = patch_count (region_lines ps r) patch.lines.items e.lines (e.from - 1) (e.from - 1 + e.count) r (region_count ps (e.from - 1) (e.from - 1 + e.count) r is) before (omega arith) (omega arith) after are in
    record {
      region = is;
      lines = are;
      few = omega arith;
      left = subst (FitsLeft ps r) (sym count) left;
      right = subst (FitsRight ps r) (sym count) right;
    }

-- three copies, one behind the other
pub copied : (b' b l0 l1 l2 l3 added : List (List ℕ)) (n m k : ℕ) → b' ≡ b → l0 ≡ [] → l1 ≡ l0 ++ slice_range b' 0 n → l2 ≡ l1 ++ added → l3 ≡ l2 ++ slice_range b' m k → l3 ≡ slice_range b 0 n ++ added ++ slice_range b m k
copied b' b l0 l1 l2 l3 added n m k same e0 e1 e2 e3 =
    e3
    ∙ ap (λ l. l ++ slice_range b' m k) (e2 ∙ ap (λ l. l ++ added) (e1 ∙ ap (λ l. l ++ slice_range b' 0 n) e0))
    ∙ ap (λ c. slice_range c 0 n ++ added ++ slice_range c m k) same

-- bytes of lines, one part behind the other
pub ended_bytes-append : (ls ms : List (List ℕ)) → ended_bytes (ls ++ ms) ≡ ended_bytes ls + ended_bytes ms
ended_bytes-append ls ms = sum_by-append (λ l. length (encode_utf8_all l) + 1) ls ms

-- the bytes up to a chunk of the list, and with it
pub bytes_upto : {Z : Type 0} (chunks : List (Arc (List (List ℕ)) Z)) (i : ℕ) (chunk : Arc (List (List ℕ)) Z) → i < length chunks → chunk ≡ get_or chunks i chunk → ended_bytes (lines_in (take (i + 1) chunks)) ≡ ended_bytes (lines_in (take i chunks)) + ended_bytes (arc_value chunk)
bytes_upto chunks i chunk h is = ap ended_bytes (lines_upto chunks i chunk h is) ∙ ended_bytes-append (lines_in (take i chunks)) (arc_value chunk)

pub bytes_within : {Z : Type 0} (chunks : List (Arc (List (List ℕ)) Z)) (i : ℕ) → ended_bytes (lines_in (take i chunks)) ≤ ended_bytes (lines_in chunks)
bytes_within chunks i =
    let split = ap ended_bytes (ap joined (sym (take-append-drop i (pieces_in chunks))) ∙ joined-append (take i (pieces_in chunks)) (drop i (pieces_in chunks))) ∙ ended_bytes-append (joined (take i (pieces_in chunks))) (joined (drop i (pieces_in chunks))) in
    let same = ap (λ ps. ended_bytes (joined ps)) (take-map arc_value i chunks) in
    omega (arith, split, same)

pub bytes_in_three : (ps : List (List (List ℕ))) (r : Region) → r.first ≤ r.last → ended_bytes (joined ps) ≡ ended_bytes (joined (take r.first ps)) + (ended_bytes (region_lines ps r) + ended_bytes (joined (drop r.last ps)))
bytes_in_three ps r order =
    ap ended_bytes (in_three ps r order)
    ∙ ended_bytes-append (joined (take r.first ps)) (region_lines ps r ++ joined (drop r.last ps))
    ∙ ap (λ n. ended_bytes (joined (take r.first ps)) + n) (ended_bytes-append (region_lines ps r) (joined (drop r.last ps)))

-- the bytes of the edited text
pub bytes_patched : (ps : List (List (List ℕ))) (e : Edit) (patch : Patch) → IsPatch ps e patch → ended_bytes (edited (joined ps) e) + ended_bytes (region_lines ps patch.region) ≡ ended_bytes (joined ps) + ended_bytes patch.lines.items
bytes_patched ps e patch is =
    let a = joined (take patch.region.first ps) in
    let c = joined (drop patch.region.last ps) in
    let whole = bytes_in_three ps patch.region is.region.order in
    let new = ap ended_bytes (sym (patched ps e patch is)) ∙ ended_bytes-append a (patch.lines.items ++ c) ∙ ap (λ n. ended_bytes a + n) (ended_bytes-append patch.lines.items c) in
    omega (arith, whole, new)
