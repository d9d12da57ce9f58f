-- The chunks that an edit touches.
use Rattle.std.proofs.Common.{◌≡◌, ℕ, ◌+◌, ◌-◌, ◌*◌, ◌<◌, ◌≤◌, ◌⊎◌, inl, inr, List, [], length, get_or, take, ap, arith}
use Rattle.std.proofs.lemmas.List.{take_all}
use Rattle.std.proofs.lemmas.Bool.{cases_lt}
use Rattle.std.proofs.lemmas.Bool.Decides.{nat_tests}
use Rattle.text_versions.specs.Chunks.{joined, AreChunks}
use Rattle.text_versions.specs.Cuts.{rest_of, IsPlace, IsRegion, kept_count, FitsLeft, FitsRight}
use Rattle.text_versions.specs.declared.region.Place.{Place}
use Rattle.text_versions.specs.declared.region.Region.{Region}
use Rattle.text_versions.proofs.Pieces.{count_more, few_at, many_at}

-- a line of the text stands at most 63 lines behind the begin of its chunk
pub begin_near : (ps : List (List (List ℕ))) (line : ℕ) (place : Place) → AreChunks ps → IsPlace ps line place → line ≤ length (joined ps) → line ≤ place.start + 63
begin_near ps line place a is h = begin_in ps line place a is h (cases_lt place.chunk (length ps))
  where
    begin_in : (ps : List (List (List ℕ))) (line : ℕ) (place : Place) → AreChunks ps → IsPlace ps line place → line ≤ length (joined ps) → (place.chunk < length ps) ⊎ (length ps ≤ place.chunk) → line ≤ place.start + 63
    begin_in ps line place a is h (inl l) =
        let here = is.here l in
        let few = few_at ps place.chunk a l in
        omega arith
    begin_in ps line place a is h (inr l) =
        let all = ap (λ qs. length (joined qs)) (take_all place.chunk ps l) in
        let start = is.begins.start_is in
        omega arith

-- the lines before the last chunk before the region
pub count_before : (ps : List (List (List ℕ))) (from to n : ℕ) (r : Region) → IsRegion ps from to r → 0 < r.first → n ≡ length (get_or ps (r.first - 1) []) → r.start ≡ length (joined (take (r.first - 1) ps)) + n
count_before ps from to n r is some e =
    let h : r.first - 1 < length ps = omega (arith, is.order, is.within) in
    let one : r.first ≡ r.first - 1 + 1 = omega arith in
    let whole : length (joined (take r.first ps)) ≡ length (joined (take (r.first - 1 + 1) ps)) = ap (λ k. length (joined (take k ps))) one in
    let more = count_more ps (r.first - 1) h in
    let start = is.start_is in
    omega arith

pub left_region : (ps : List (List (List ℕ))) (from to n : ℕ) (r : Region) → IsRegion ps from to r → 0 < r.first → n ≡ length (get_or ps (r.first - 1) []) → IsRegion ps from to (record r { first = r.first - 1; start = r.start - n })
left_region ps from to n r is some e =
    let start = count_before ps from to n r is some e in
    record {
      order = omega (arith, is.order);
      within = is.within;
      start_is = omega arith;
      end_is = is.end_is;
      before = omega (arith, is.before);
      after = is.after;
    }

pub left_fits : (ps : List (List (List ℕ))) (from to n added : ℕ) (r : Region) → AreChunks ps → IsRegion ps from to r → 0 < r.first → n ≡ length (get_or ps (r.first - 1) []) → FitsLeft ps (record r { first = r.first - 1; start = r.start - n }) (kept_count from to (record r { first = r.first - 1; start = r.start - n }) + added)
left_fits ps from to n added r a is some e more =
    let start = count_before ps from to n r is some e in
    let h : r.first - 1 - 1 + 1 < length ps = omega (arith, is.order, is.within) in
    let many = many_at ps (r.first - 1 - 1) a h in
    let one : r.first - 1 - 1 + 1 ≡ r.first - 1 = omega arith in
    let last : length (get_or ps (r.first - 1 - 1 + 1) []) ≡ length (get_or ps (r.first - 1) []) = ap (λ k. length (get_or ps k [])) one in
    let few = few_at ps (r.first - 1) a (omega (arith, is.order, is.within)) in
    let before = is.before in
    omega arith

-- behind pieces of 64 stands what is left
pub rest_is : (count q r : ℕ) → count ≡ 64 * q + r → 1 ≤ r → r ≤ 64 → rest_of count ≡ r
rest_is count q r e some few = grind (arith, nat_tests)

pub rest_more : (count n : ℕ) → rest_of count + n ≤ 64 → 1 ≤ n → rest_of (count + n) ≡ rest_of count + n
rest_more count n few some = grind (arith, nat_tests)

pub right_fits : (ps : List (List (List ℕ))) (from to n added : ℕ) (r : Region) → AreChunks ps → IsRegion ps from to r → 1 ≤ n → n ≡ length (get_or ps r.last []) → rest_of (kept_count from to r + added) + n ≤ 64 → FitsRight ps (record r { last = r.last + 1; end = r.end + n }) (kept_count from to (record r { last = r.last + 1; end = r.end + n }) + added)
right_fits ps from to n added r a is some e fits more =
    let many = many_at ps r.last a more in
    let rest = rest_more (kept_count from to r + added) n fits some in
    let after = is.after in
    let same : kept_count from to (record r { last = r.last + 1; end = r.end + n }) + added ≡ kept_count from to r + added + n = omega arith in
    rw same (omega (arith, rest))
