use Rattle.std.proofs.Common.{◌≡◌, ◌∙◌, sym, ap, map, false}
use Rattle.std.proofs.lemmas.Result.{IfOk-weaker}
use Rattle.std.specs.String.{string_bytes}
use Rattle.workbench.specs.Program.{command_by}
use Rattle.workbench.specs.Words.{has_other_option}
use Rattle.workbench.proofs.Readings.{refused_is, taken_is}
use Rattle.workbench.proofs.Listed.{other_option_is_none}
use Rattle.workbench.proofs.words.command_of.Goals as goal

pub returns-then-has_other_option-clause-command : goal.returns-then-has_other_option-clause-command
returns-then-has_other_option-clause-command c =
    let words = map (λ word. string_bytes word) c.args.words.now in
    sym (other_option_is_none words (sym c.has_other_option.ensures ∙ c.if-has_other_option.true))

pub returns-in-Some-clause-command : goal.returns-in-Some-clause-command
returns-in-Some-clause-command c =
    let words = map (λ word. string_bytes word) c.args.words.now in
    let passes : has_other_option words ≡ false = sym c.has_other_option.ensures ∙ c.if-has_other_option.false in
    let read = rw c.in-Some.is at c.in_ok-matches.ensures in
    IfOk-weaker c.command_by.result _ _ (λ command e. e ∙ ap command_by read.1 ∙ taken_is words passes read.0) c.command_by.ensures

pub returns-in-None-clause-command : goal.returns-in-None-clause-command
returns-in-None-clause-command c =
    let words = map (λ word. string_bytes word) c.args.words.now in
    let passes : has_other_option words ≡ false = sym c.has_other_option.ensures ∙ c.if-has_other_option.false in
    sym (refused_is words passes (rw c.in-None.is at c.in_ok-matches.ensures))
