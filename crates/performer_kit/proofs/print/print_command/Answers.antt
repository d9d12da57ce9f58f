use Rattle.std.proofs.Common.{◌≡◌, ◌∙◌, ap, rules, ◌∷◌, [], SFits, w32, encode_utf8_all, string_bytes}
use Rattle.std.proofs.lemmas.Int.{to_z-of_z}
use Rattle.performer_kit.specs.Commands.{joined_words, command_name}
use Rattle.performer_kit.proofs.Printing.{encodes-printed_command, encodes-printed_bare}
use Rattle.performer_kit.proofs.print.print_command.Goals as goal

pub returns-in_ok-add_numbers-in-Some : goal.returns-in_ok-add_numbers-in-Some
returns-in_ok-add_numbers-in-Some c =
    let first_fits : SFits w32 c.in-Some.first = search rules in
    let second_fits : SFits w32 c.in-Some.second = search rules in
    let printed = simp to_z-of_z at c.in_ok-add_numbers-in-Some.ensures in
    let joined : string_bytes c.in_ok-name.name ≡ encode_utf8_all (joined_words (command_name c.args.command)) = c.in_ok-name.ensures ∙ ap (λ n. encode_utf8_all (joined_words n)) c.text_of.ensures in
    printed ∙ encodes-printed_command c.args.command (c.in-Some.first ∷ c.in-Some.second ∷ []) c.deref.result.now (c.deref.ensures ∙ joined) c.in-Some.ensures

pub returns-in-None : goal.returns-in-None
returns-in-None c =
    c.in_ok-name.ensures ∙ ap (λ n. encode_utf8_all (joined_words n)) c.text_of.ensures ∙ encodes-printed_bare c.args.command c.in-None.ensures
