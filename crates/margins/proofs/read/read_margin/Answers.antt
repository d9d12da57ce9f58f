use Rattle.std.proofs.Common.{subst, sym, ◌∙◌, ap}
use Rattle.std.specs.List.{list_all}
use Rattle.std.proofs.lemmas.Bool.{false≢true}
use Rattle.margins.specs.Marks.{HasFaultCodes, is_fault_code}
use Rattle.margins.proofs.read.read_margin.Goals as goal

pub returns-then-has_fault_codes-clause-printed : goal.returns-then-has_fault_codes-clause-printed
returns-then-has_fault_codes-clause-printed c =
    let read = c.in_ok-margin.ensures.printed in
    (read.0, subst HasFaultCodes c.marks.ensures.shown (sym c.has_fault_codes.ensures ∙ c.if-has_fault_codes.true), read.1)

pub returns-then-has_fault_codes-clause-refused : goal.returns-then-has_fault_codes-clause-refused
returns-then-has_fault_codes-clause-refused c none =
    let read = c.in_ok-margin.ensures.printed in
    absurd (none c.in_ok-margin.margin read.0 (subst HasFaultCodes c.marks.ensures.shown (sym c.has_fault_codes.ensures ∙ c.if-has_fault_codes.true)) read.1)

pub returns-else-has_fault_codes-clause-not_margin : goal.returns-else-has_fault_codes-clause-not_margin
returns-else-has_fault_codes-clause-not_margin c refused ms margin codes is =
    let same = c.in_ok-margin.ensures.read_again ms margin is in
    false≢true (sym c.if-has_fault_codes.false ∙ c.has_fault_codes.ensures ∙ ap (list_all (λ m. is_fault_code m.code)) (c.marks.ensures.shown ∙ same) ∙ codes)

pub returns-else-has_fault_codes-clause-read_again : goal.returns-else-has_fault_codes-clause-read_again
returns-else-has_fault_codes-clause-read_again c ms margin codes is =
    let same = c.in_ok-margin.ensures.read_again ms margin is in
    absurd (false≢true (sym c.if-has_fault_codes.false ∙ c.has_fault_codes.ensures ∙ ap (list_all (λ m. is_fault_code m.code)) (c.marks.ensures.shown ∙ same) ∙ codes))
