use Rattle.std.proofs.Common.{◌≡◌, Some, ap, ◌∙◌}
use Rattle.decimals.specs.Numbers.{number_of}
use Rattle.decimals.proofs.Numbers.{number_again}
use Rattle.transcript.specs.declared.entry.Entry.TheVariants.{Out}
use Rattle.transcript.proofs.Escapes.{behind_out, run_and_text, text_again, same_number}
use Rattle.transcript.proofs.escaped.read_out.Goals as goal

pub returns-in_default-split_once : goal.returns-in_default-split_once
returns-in_default-split_once c run text h s is =
    let first = rw c.in-Some.is at (behind_out _ run text c.split_once.result c.split_once.ensures.cases is) in
    let second = run_and_text _ run text c.split_once-2.result c.split_once-2.ensures.cases h first.1 in
    absurd (rw c.in_default-split_once.is at second)

pub returns-in-Some-2 : goal.returns-in-Some-2
returns-in-Some-2 c run text h s is =
    let first = rw c.in-Some.is at (behind_out _ run text c.split_once.result c.split_once.ensures.cases is) in
    let second = rw c.in-Some-split_once.is at (run_and_text _ run text c.split_once-2.result c.split_once-2.ensures.cases h first.1) in
    let number : c.in-Some-2.run' ≡ run = same_number _ _ _ c.in-Some-2.is (c.in_ok-run.ensures ∙ ap number_of second.0 ∙ number_again run h) in
    let same : c.in_ok-text.text ≡ text = c.in_ok-text.ensures ∙ text_again text _ s second.1 in
    λ i. Some (Out (number i) (same i))

pub returns-in-None : goal.returns-in-None
returns-in-None c run text h s is =
    let first = rw c.in-Some.is at (behind_out _ run text c.split_once.result c.split_once.ensures.cases is) in
    let second = rw c.in-Some-split_once.is at (run_and_text _ run text c.split_once-2.result c.split_once-2.ensures.cases h first.1) in
    let read = c.in_ok-run.ensures ∙ ap number_of second.0 ∙ number_again run h in
    let not = c.in-None.is in
    absurd (let never : ⊥ = cc in never)
