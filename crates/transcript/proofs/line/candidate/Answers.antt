use Rattle.std.proofs.Common.{◌≡◌, Some, IfOk, map, codes, subst, sym, ap, ◌∙◌}
use Rattle.std.specs.Str.{bytes_eq}
use Rattle.std.proofs.lemmas.List.{nil_from_length}
use Rattle.margins.proofs.Words.{tails_same}
use Rattle.transcript.specs.Reading.{parts, entry_of}
use Rattle.transcript.proofs.Again.{words_again}
use Rattle.transcript.proofs.Heads.{first_is, out_alone, margin_alone, plain_else, margin_parts, some_part}
use Rattle.transcript.proofs.line.candidate.Goals as goal

pub returns-in_default : goal.returns-in_default
returns-in_default c e h p is =
    absurd (some_part c.args.line.now (ap (map (λ w. w.now)) (sym (nil_from_length _ c.in_default.ensures.cases) ∙ c.as_slice.ensures.value) ∙ c.in_ok-words.ensures))

pub returns-then-eq : goal.returns-then-eq
returns-then-eq c e h p is =
    let all = ap (map (λ w. w.now)) (sym c.in-Some.ensures.cases.0 ∙ c.as_slice.ensures.value) ∙ c.in_ok-words.ensures ∙ ap parts is in
    out_alone e c.args.line.now (λ x. IfOk c.read_out.result (λ r. r ≡ Some x)) h is c.read_out.ensures
    (ap (λ w. bytes_eq w (codes "out")) (first_is e _ _ (sym all)) ∙ sym c.eq.ensures ∙ c.if-eq.true)

pub returns-then-eq-2 : goal.returns-then-eq-2
returns-then-eq-2 c e h p is =
    let split = ap (map (λ w. w.now)) (sym c.in-Some.ensures.cases.0 ∙ c.as_slice.ensures.value) ∙ c.in_ok-words.ensures in
    margin_alone e c.args.line.now (λ x. IfOk c.read_margin.result (λ r. r ≡ Some x)) h is
    (λ version margin v m same. c.read_margin.ensures version margin v m (tails_same _ _ _ _ (split ∙ ap parts same ∙ margin_parts version margin v m)))
    (ap (λ w. bytes_eq w (codes "margin")) (first_is e _ _ (sym (split ∙ ap parts is))) ∙ sym c.eq-else-eq.ensures ∙ c.if-eq-2.true)

pub returns : goal.returns
returns c e h p is =
    let all = ap (map (λ w. w.now)) (sym c.in-Some.ensures.cases.0 ∙ c.as_slice.ensures.value) ∙ c.in_ok-words.ensures ∙ ap parts is in
    let first = first_is e _ _ (sym all) in
    let plain = plain_else e (ap (λ w. bytes_eq w (codes "out")) first ∙ sym c.eq.ensures ∙ c.if-eq.false) (ap (λ w. bytes_eq w (codes "margin")) first ∙ sym c.eq-else-eq.ensures ∙ c.if-eq-2.false) in
    subst (λ x. IfOk c.read_words.result (λ r. r ≡ x))
    (ap (λ ws. entry_of (map (λ w. w.now) ws)) c.as_slice-else-eq-2.ensures.value ∙ ap entry_of (c.in_ok-words.ensures ∙ ap parts is) ∙ words_again e h p plain)
    c.read_words.ensures
