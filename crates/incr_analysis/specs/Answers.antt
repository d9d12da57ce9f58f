-- What an analysis answers.
use Rattle.std.specs.Prelude.{◌≡◌, ◌≢◌, ◌≤◌, ℕ, ◌+◌, Bool, List, [], ⊤, Option, Some, None, Result, Ok, Err}
use Rattle.km_base.specs.declared.Memory.{Memory}
use Rattle.kumir_tree.specs.Unit.{Known}
use Rattle.kumir_tree.specs.declared.unit.PlacedUnit.{PlacedUnit}
use Rattle.margins.specs.declared.margin.Mark.{Mark}
use Rattle.type_check.specs.declared.refusal.CleanRefusal.{CleanRefusal}
use Rattle.type_check.specs.declared.refusal.CleanRefusal.TheVariants as refusal
use Rattle.line_pieces.specs.declared.spans.LineSpan.{LineSpan}
use Rattle.algo_parser.specs.Units.{IsSoundRead}
use Rattle.incr_analysis.specs.Full.{Full}
use Rattle.incr_analysis.specs.Seen.{AnalysedText}
use Rattle.incr_analysis.specs.declared.analyser.Analysis.{Analysis}
use Rattle.incr_analysis.specs.declared.analyser.Analysis.TheVariants.{Done, Skipped}
use Rattle.incr_analysis.specs.declared.analyser.Reading.{Reading}
use Rattle.incr_analysis.specs.declared.analyser.Reading.TheVariants as reading

-- what is read of a span is sound at its place in a text of so many lines
pub record IsSoundAt (lines : ℕ) (prelude : Bool) (span : LineSpan) (u : ℕ × Known) : Type 0 where
  pub place : u.0 ≡ span.first
  pub from_one : 1 ≤ span.first
  pub within : span.first + span.count ≤ lines + 1
  pub sound : IsSoundRead span.count prelude u.1

abbrev pub IfWhole : Reading → (List PlacedUnit → Type 0) → Type 0
IfWhole (reading.Whole units) P = P units
IfWhole (reading.Skipped newer) P = ⊤

abbrev pub IfDone : Analysis → (AnalysedText → Type 0) → Type 0
IfDone (Done a) P = P a
IfDone (Skipped newer) P = ⊤

abbrev pub newer_in : Analysis → Option ℕ
newer_in (Done a) = None
newer_in (Skipped newer) = Some newer

-- the number for which an analysis was broken off
abbrev pub newer_of : Result Analysis Memory → Option ℕ
newer_of (Ok a) = newer_in a
newer_of (Err e) = None

abbrev pub read_newer_in : Reading → Option ℕ
read_newer_in (reading.Whole units) = None
read_newer_in (reading.Skipped newer) = Some newer

abbrev pub read_newer_of : Result Reading Memory → Option ℕ
read_newer_of (Ok r) = read_newer_in r
read_newer_of (Err e) = None

-- it is the full analysis of this text under this number
pub record IsAnalysisOf (version : ℕ) (text : List (List ℕ)) (a : AnalysedText) : Type 0 where
  pub number : a.version ≡ version
  pub same_text : a.text ≡ text
  pub full : Full text a.margin

-- a program is refused with this margin, which has marks; or for want of memory
abbrev pub IsRefusedWith : List Mark → CleanRefusal → Type 0
IsRefusedWith margin (refusal.Faults shown) = (shown ≡ margin) × (margin ≢ [])
IsRefusedWith margin refusal.Memory = ⊤
