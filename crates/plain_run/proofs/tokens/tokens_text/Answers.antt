use Rattle.std.proofs.Common.{◌≡◌, map, sym, subst, ◌∙◌, ap, refl, arith}
use Rattle.std.specs.Str.{chars}
use Rattle.std.proofs.lemmas.Result.{on_ok_weaker, IfErr-weaker}
use Rattle.km_ports.specs.declared.status.Status.TheVariants as status
use Rattle.plain_run.specs.Printed.{AnswersTokens}
use Rattle.plain_run.specs.Runs.{ports, IsTextRun}
use Rattle.plain_run.proofs.Runs.{read_whole, worked_run}
use Rattle.plain_run.proofs.Prints.{tokens_whole, tokens_prefix}
use Rattle.plain_run.proofs.tokens.tokens_text.Goals as goal

pub returns-in-Ok-text_lines-clause-run : goal.returns-in-Ok-text_lines-clause-run
returns-in-Ok-text_lines-clause-run g c =
    let p = ports (g.I.Source.state c.args.input.now) (g.I.Source.state c.read_within.new.input) (g.O.Sink.state c.args.output.now) (g.O.Sink.state c.put_lines.new.output) in
    let same : c.deref.result.now ≡ c.in-Ok.bytes.items = c.deref.ensures.value in
    let shown = ap (λ l. map (λ line. chars line.now) l) c.as_slice.ensures.value ∙ c.in-Ok-text_lines.ensures.lines in
    subst (IsTextRun AnswersTokens p) (sym c.ended.ensures) (worked_run _ AnswersTokens p c.deref.result.now status.Fine c.put_lines.result refl
    (read_whole p c.deref.result.now c.in-Ok.bytes.items same c.in-Ok.ensures.whole (let within = c.in-Ok.ensures.within in let ok = c.in-Ok.bytes.ok in omega (arith, within, ok)) c.in-Ok.ensures.bytes c.in-Ok.ensures.end c.in-Ok.ensures.cause)
    c.in-Ok-text_lines.ensures.text
    (on_ok_weaker c.put_lines.result (tokens_whole c.deref.result.now _ p shown) c.put_lines.ensures.whole)
    (IfErr-weaker c.put_lines.result _ _ (λ fault. tokens_prefix c.deref.result.now _ p fault shown) c.put_lines.ensures.prefix)
    c.put_lines.ensures.cause)
