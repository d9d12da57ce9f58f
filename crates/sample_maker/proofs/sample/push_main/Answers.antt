use Rattle.std.proofs.Common.{◌≡◌, ◌++◌, ◌%◌, ap, ◌∙◌}
use Rattle.std.specs.Prelude.{codes}
use Rattle.std.specs.List.{flat_map, range_with_len}
use Rattle.std.specs.Fmt.{decimal}
use Rattle.std.specs.String.{string_bytes}
use Rattle.std.proofs.lemmas.Result.{on_ok_weaker}
use Rattle.sample_maker.specs.Sample.{utf8, stage_numbers, call_line}
use Rattle.sample_maker.proofs.Behind.{behind, then_put, three_then}
use Rattle.sample_maker.proofs.sample.push_main.Goals as goal

pub returns : goal.returns
unfolding lib.Utf8.encode
returns c =
    let out = string_bytes c.args.out.now in
    let head = utf8 (codes "алг главная\nнач\nцел s\ns := ") in
    let begin = decimal (c.args.number % 1000) in
    let calls = flat_map call_line (stage_numbers c.args.number) in
    let tail = utf8 (codes "вывод s\nкон\n") in
    let called : string_bytes c.push_calls.new.out ≡ string_bytes c.writeln.new.self ++ calls =
    c.in_ok-push_calls.ensures ∙ ap (λ n. string_bytes c.writeln.new.self ++ flat_map call_line (range_with_len 1 n)) c.stages.ensures.value in
    let put = then_put c.push_str.result (string_bytes c.writeln.new.self) (string_bytes c.push_calls.new.out) (string_bytes c.push_str.new.self) calls tail called c.push_str.ensures.bytes in
    on_ok_weaker c.push_str.result (λ last.
    behind out (string_bytes c.writeln.new.self) (string_bytes c.push_str.new.self) (head ++ (begin ++ codes "\n")) (calls ++ tail) c.in_ok-writeln.ensures.bytes last
    ∙ ap (λ s. out ++ s) (three_then head begin (codes "\n") (calls ++ tail))) put
