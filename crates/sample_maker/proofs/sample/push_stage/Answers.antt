use Rattle.std.proofs.Common.{◌++◌, ap, ◌∙◌}
use Rattle.std.specs.Prelude.{codes}
use Rattle.std.specs.Fmt.{decimal}
use Rattle.std.specs.String.{string_bytes}
use Rattle.std.proofs.lemmas.Result.{on_ok_weaker}
use Rattle.sample_maker.specs.Sample.{utf8, value_line}
use Rattle.sample_maker.proofs.Behind.{behind, then_put, three_then}
use Rattle.sample_maker.proofs.sample.push_stage.Goals as goal

pub returns : goal.returns
unfolding lib.Utf8.encode
returns c =
    let out = string_bytes c.args.out.now in
    let head = utf8 (codes "алг цел f_") in
    let begin = utf8 (codes "(арг цел x)\nнач\n") in
    let value = value_line 1 c.args.stage in
    let tail = utf8 (codes "кон\n") in
    let put = then_put c.push_str.result (string_bytes c.writeln.new.self) (string_bytes c.push_value.new.out) (string_bytes c.push_str.new.self) value tail c.in_ok-push_value.ensures c.push_str.ensures.bytes in
    on_ok_weaker c.push_str.result (λ last.
    behind out (string_bytes c.writeln.new.self) (string_bytes c.push_str.new.self) (head ++ (decimal c.args.stage ++ begin)) (value ++ tail) c.in_ok-writeln.ensures.bytes last
    ∙ ap (λ s. out ++ s) (three_then head (decimal c.args.stage) begin (value ++ tail))) put
