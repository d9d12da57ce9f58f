-- A text has exactly one full analysis: one list of spans, one reading of each span, one margin of what is read.
use Rattle.std.proofs.Common.{◌≡◌, ℕ, zero, suc, ◌+◌, ◌-◌, ◌<◌, ◌≤◌, Bool, true, false, true≢false, List, [], ◌∷◌, length, take, drop, slice_index_or, refl, sym, subst, ◌∙◌, arith}
use Rattle.std.specs.List.{AllByRecursion}
use Rattle.kumir_tree.specs.Unit.{Known}
use Rattle.margins.specs.declared.margin.Mark.{Mark}
use Rattle.line_pieces.specs.declared.spans.LineSpan.{LineSpan}
use Rattle.line_pieces.specs.Spans.{BeginsUnit, FirstBegins, IsUnitSpan, Cover, AreSpans}
use Rattle.line_pieces.specs.Laws.{EachHasSpans, OneListOfSpans}
use Rattle.algo_parser.specs.Laws.{EachIsRead, OneReading}
use Rattle.type_check.specs.Margin.{program_faults, IsMarginOf}
use Rattle.type_check.specs.Laws.{EachHasMargin, HasOneMargin}
use Rattle.incr_analysis.specs.Full.{Along, lines_in, IsReadAt, AreUnits, Full}
use Rattle.incr_analysis.specs.Laws.{EachHasUnits, OneListOfUnits, EachHasAnalysis, OneAnalysis}

-- ---- units along their spans

along_units : (P : Bool → LineSpan → ℕ × Known → Type 0) (spans : List LineSpan) → AllByRecursion (λ s. (u : ℕ × Known) × P false s u) spans → (units : List (ℕ × Known)) × Along P false spans units
along_units P [] all = ([], tt)
along_units P (s ∷ spans) all = let more = along_units P spans all.1 in (all.0.0 ∷ more.0, (all.0.1, more.1))

same_along : (P : Bool → LineSpan → ℕ × Known → Type 0) → ((prelude : Bool) (span : LineSpan) (u v : ℕ × Known) → P prelude span u → P prelude span v → u ≡ v)
    → (prelude : Bool) (spans : List LineSpan) (units others : List (ℕ × Known)) → Along P prelude spans units → Along P prelude spans others → units ≡ others
same_along P one prelude [] [] [] a b = refl
same_along P one prelude [] [] (v ∷ others) a b = absurd b
same_along P one prelude [] (u ∷ units) others a b = absurd a
same_along P one prelude (s ∷ spans) [] others a b = absurd a
same_along P one prelude (s ∷ spans) (u ∷ units) [] a b = absurd b
same_along P one prelude (s ∷ spans) (u ∷ units) (v ∷ others) a b =
    let first = one prelude s u v a.0 b.0 in
    let rest = same_along P one false spans units others a.1 b.1 in
    (λ i. first i ∷ rest i)

-- ---- there is an analysis

-- the lines from one that begins a unit
begins_at : (lines : List (List ℕ)) (from count : ℕ) → 0 < count → from < length lines → BeginsUnit (slice_index_or lines from []) → FirstBegins (take count (drop from lines))
begins_at [] from count some lt b = absurd (omega (arith, lt))
begins_at (l ∷ lines) zero zero some lt b = absurd (omega (arith, some))
begins_at (l ∷ lines) zero (suc count) some lt b = b
begins_at (l ∷ lines) (suc from) count some lt b = begins_at lines from count some (omega (arith, lt)) b

count_of : (from count : ℕ) → from + count - from ≡ count
count_of from count = omega arith

begins_unit : (lines : List (List ℕ)) (s : LineSpan) → 1 ≤ s.first → s.first + s.count ≤ length lines + 1 → IsUnitSpan lines s → FirstBegins (lines_in lines s)
begins_unit lines s from within unit =
    subst (λ n. FirstBegins (take n (drop (s.first - 1) lines))) (sym (count_of (s.first - 1) s.count))
    (begins_at lines (s.first - 1) s.count unit.some (omega (arith, from, within, unit.some)) unit.begins)

cover_end : (at end : ℕ) (spans : List LineSpan) → Cover at spans end → at ≤ end
cover_end at end [] c = omega (arith, c)
cover_end at end (s ∷ spans) c = omega (arith, cover_end (at + s.count) end spans c.1)

module _ (each : EachIsRead) (lines : List (List ℕ)) where
  read_unit : (s : LineSpan) → FirstBegins (lines_in lines s) → (u : ℕ × Known) × IsReadAt lines false s u
  read_unit s begins = let read = each (lines_in lines s) false (λ e. begins) in ((s.first, read.0), record { place = refl; read = read.1 })

  read_prelude : (s : LineSpan) → (u : ℕ × Known) × IsReadAt lines true s u
  read_prelude s = let read = each (lines_in lines s) true (λ e. absurd (true≢false e)) in ((s.first, read.0), record { place = refl; read = read.1 })

  each_read : (at : ℕ) (spans : List LineSpan) → 1 ≤ at → AllByRecursion (IsUnitSpan lines) spans → Cover at spans (length lines + 1) → AllByRecursion (λ s. (u : ℕ × Known) × IsReadAt lines false s u) spans
  each_read at [] one all cover = _
  each_read at (s ∷ spans) one all cover =
      let end = cover_end (at + s.count) (length lines + 1) spans cover.1 in (
        read_unit s (begins_unit lines s (omega (arith, one, cover.0)) (omega (arith, cover.0, end)) all.0),
        each_read (at + s.count) spans (omega (arith, one)) all.1 cover.1,
      )

  read_all : (spans : List LineSpan) → AreSpans lines spans → (units : List (ℕ × Known)) × Along (IsReadAt lines) true spans units
  read_all [] parted = absurd parted
  read_all (s ∷ spans) parted =
      let first = read_prelude s in
      let rest = along_units (IsReadAt lines) spans (each_read (1 + s.count) spans (omega arith) parted.1 parted.2.1) in
      (first.0 ∷ rest.0, (first.1, rest.1))

pub each_has_units : EachHasSpans → EachIsRead → EachHasUnits
each_has_units spans read lines =
    let s = spans lines in
    let units = read_all read lines s.0 s.1 in
    (units.0, record { spans = s.0; parted = s.1; read = units.1 })

pub each_has_analysis : EachHasSpans → EachIsRead → EachHasMargin → EachHasAnalysis
each_has_analysis spans read margin lines =
    let units = each_has_units spans read lines in
    let marks = margin (program_faults units.0) in
    (marks.0, (units.0, record { are_units = units.1; marked = marks.1 }))

-- ---- and no other one

same_read : OneReading → (lines : List (List ℕ)) (prelude : Bool) (span : LineSpan) (u v : ℕ × Known) → IsReadAt lines prelude span u → IsReadAt lines prelude span v → u ≡ v
same_read one lines prelude span u v a b =
    let place = a.place ∙ sym b.place in
    let known = one (lines_in lines span) prelude u.1 v.1 a.read b.read in
    (λ i. (place i, known i))

pub one_program : OneListOfSpans → OneReading → OneListOfUnits
one_program spans one lines a b h k =
    let same = spans lines h.spans k.spans h.parted k.parted in
    same_along (IsReadAt lines) (same_read one lines) true k.spans a b (subst (λ ss. Along (IsReadAt lines) true ss a) same h.read) k.read

pub one_analysis : OneListOfSpans → OneReading → HasOneMargin → OneAnalysis
one_analysis spans one margin lines a b h k =
    let same = one_program spans one lines h.0 k.0 h.1.are_units k.1.are_units in
    margin (program_faults k.0) a b (subst (λ us. IsMarginOf (program_faults us) a) same h.1.marked) k.1.marked
