use Rattle.std.proofs.Common.{◌≡◌, ℕ, List, length, map, subst, ◌∙◌, ap, arith, inr, refl, Bor}
use Rattle.std.specs.Str.{chars}
use Rattle.std.specs.Str.Lines.{lines}
use Rattle.kumir_tree.specs.Lines.{lines_of}
use Rattle.plain_run.specs.Texts.{AreLines, Exceed}
use Rattle.plain_run.specs.Feeds.{weight}
use Rattle.plain_run.proofs.Feeds.{pieces_free}
use Rattle.plain_run.proofs.Sizes.{weight_lines, short_pieces, unmarked_fits, seen_lines}
use Rattle.plain_run.proofs.text.limited_lines.Goals as goal

abbrev now : Bor (List ℕ) → List ℕ
now line = line.now

shown : (pieces : List (Bor (List ℕ))) (text unmarked : List ℕ) → map now pieces ≡ lines unmarked → map chars (lines unmarked) ≡ lines_of text → map (λ (line : Bor (List ℕ)). chars line.now) pieces ≡ lines_of text
shown pieces text unmarked found e = seen_lines chars now pieces ∙ ap (map chars) found ∙ e

pub returns-clause-lines : goal.returns-clause-lines
returns-clause-lines c = shown c.in-Ok.lines.items c.args.text.now c.unmarked.result.now c.in-Ok.ensures (ap (λ t. map chars (lines t)) c.unmarked.ensures)

pub returns-in-Some-clause-refused : goal.returns-in-Some-clause-refused
returns-in-Some-clause-refused c =
    let all = shown c.as_slice.result.now c.args.text.now c.unmarked.result.now (ap (map now) c.as_slice.ensures.value ∙ c.in-Ok.ensures) (ap (λ t. map chars (lines t)) c.unmarked.ensures) in
    inr (c.in-Some.excess, refl, subst (λ ls. Exceed ls c.in-Some.excess) all c.in-Some.ensures)

pub returns-clause-sizes : goal.returns-clause-sizes
returns-clause-sizes c = λ k d lt. omega (arith, short_pieces now c.in-Ok.lines.items c.unmarked.result.now c.in-Ok.ensures k d lt, ap (λ (l : List ℕ). length l) c.unmarked.ensures, unmarked_fits c.args.text.now)

pub returns-clause-within : goal.returns-clause-within
returns-clause-within c =
    let all = shown c.as_slice.result.now c.args.text.now c.unmarked.result.now (ap (map now) c.as_slice.ensures.value ∙ c.in-Ok.ensures) (ap (λ t. map chars (lines t)) c.unmarked.ensures) in
    subst AreLines all c.in-None.ensures

pub returns-clause-feeds : goal.returns-clause-feeds
returns-clause-feeds c = pieces_free now c.in-Ok.lines.items c.unmarked.result.now c.in-Ok.ensures

pub returns-clause-weight : goal.returns-clause-weight
returns-clause-weight c = omega (arith, ap weight c.in-Ok.ensures, weight_lines c.unmarked.result.now, ap (λ (l : List ℕ). length l) c.unmarked.ensures, unmarked_fits c.args.text.now)
