use Rattle.std.proofs.Common.{sym, ap, ◌∙◌, arith, w64, Some}
use Rattle.std.specs.Fmt.{signed_decimal}
use Rattle.std.proofs.lemmas.Fmt.{parse-signed_decimal}
use Rattle.std.proofs.lemmas.Int.{to_z-of_z}
use Rattle.decimals.proofs.Numbers.{wide_is, wide_not, wide_parsed, wide_fits, wide_small, words_same, words_differ, ok_same}
use Rattle.decimals.proofs.read.read_wide.Goals as goal

pub returns-in_default : goal.returns-in_default
returns-in_default c = sym (wide_not c.args.word.now (λ z small is.
    let parsed = parse-signed_decimal w64 z c.args.word.now c.parse.result (wide_fits z small) (omega arith) is c.parse.ensures.value.0 in
    c.in_default.not-Ok z parsed))

pub returns-then-eq : goal.returns-then-eq
returns-then-eq c =
    let read = wide_parsed c.args.word.now c.parse.result c.in-Ok.number c.parse.ensures.value.0 c.in-Ok.is in
    let number = to_z-of_z w64 c.in-Ok.number read.0 in
    let printed = c.as_str.ensures.value ∙ c.in_ok-printed.ensures.ok ∙ ap signed_decimal number in
    sym (wide_is c.args.word.now c.in-Ok.number (wide_small c.in-Ok.number read.0) read.1 (sym (words_same _ _ _ c.eq.ensures c.if-eq.true) ∙ printed) ∙ ap Some (sym number))

pub returns : goal.returns
returns c = sym (wide_not c.args.word.now (λ z small is.
    let read = wide_parsed c.args.word.now c.parse.result c.in-Ok.number c.parse.ensures.value.0 c.in-Ok.is in
    let number = to_z-of_z w64 c.in-Ok.number read.0 in
    let printed = c.as_str.ensures.value ∙ c.in_ok-printed.ensures.ok ∙ ap signed_decimal number in
    let parsed = parse-signed_decimal w64 z c.args.word.now c.parse.result (wide_fits z small) (omega arith) is c.parse.ensures.value.0 in
    words_differ _ _ _ c.eq.ensures c.if-eq.false (printed ∙ ap signed_decimal (ok_same _ _ _ c.in-Ok.is parsed) ∙ sym is)))
