use Rattle.std.proofs.Common.{◌≡◌, Some}
use Rattle.margins.proofs.Reading.{mark_parts, line_read, code_read, same_ok}
use Rattle.margins.proofs.read.read_mark.Goals as goal

pub returns-in_default : goal.returns-in_default
returns-in_default c m h is =
    let parts = mark_parts c.args.word.now m c.split_once.result c.split_once.ensures.cases h is in
    absurd (rw c.in_default.is at parts)

pub returns-in_default-parse : goal.returns-in_default-parse
returns-in_default-parse c m h is =
    let parts = mark_parts c.args.word.now m c.split_once.result c.split_once.ensures.cases h is in
    let both = rw c.in-Some.is at parts in
    let line = line_read _ m _ c.parse.ensures.value.0 h both.0 in
    let not = c.in_default-parse.is in
    cc

pub returns-in_default-parse-2 : goal.returns-in_default-parse-2
returns-in_default-parse-2 c m h is =
    let parts = mark_parts c.args.word.now m c.split_once.result c.split_once.ensures.cases h is in
    let both = rw c.in-Some.is at parts in
    let code = code_read _ m _ c.parse-2.ensures.value.0 h both.1 in
    let not = c.in_default-parse-2.is in
    cc

pub returns : goal.returns
returns c m h is =
    let parts = mark_parts c.args.word.now m c.split_once.result c.split_once.ensures.cases h is in
    let both = rw c.in-Some.is at parts in
    let line = line_read _ m _ c.parse.ensures.value.0 h both.0 in
    let code = code_read _ m _ c.parse-2.ensures.value.0 h both.1 in
    let line_is = c.in-Ok.is in
    let code_is = c.in-Ok-parse.is in
    let a : c.in-Ok.line ≡ m.line = same_ok _ _ _ line_is line in
    let b : c.in-Ok-parse.code ≡ m.code = same_ok _ _ _ code_is code in
    λ i. Some record { line = a i; code = b i }
