use Rattle.std.proofs.Common.{◌≡◌, map, sym, subst, ◌∙◌, ap, arith}
use Rattle.std.specs.Str.{chars}
use Rattle.plain_run.specs.Checked.{IsCheckRun}
use Rattle.plain_run.specs.Runs.{ports}
use Rattle.plain_run.proofs.Runs.{read_whole}
use Rattle.plain_run.proofs.Checks.{checked_run}
use Rattle.plain_run.proofs.check.check_text.Goals as goal

pub returns-in-Ok-answer_of : goal.returns-in-Ok-answer_of
returns-in-Ok-answer_of g c =
    let p = ports (g.I.Source.state c.args.input.now) (g.I.Source.state c.read_within.new.input) (g.O.Sink.state c.args.output.now) (g.O.Sink.state c.put_all.new.output) in
    let same : c.deref.result.now ≡ c.in-Ok.bytes.items = c.deref.ensures.value in
    record {
      run = subst (IsCheckRun p) (sym c.ended.ensures) (checked_run _ p c.deref.result.now (map (λ line. chars line.now) c.as_slice.result.now) c.in-Ok-answer_of.answer.status _ c.as_bytes.result.now c.put_all.result
          (read_whole p c.deref.result.now c.in-Ok.bytes.items same c.in-Ok.ensures.whole (let within = c.in-Ok.ensures.within in let ok = c.in-Ok.bytes.ok in omega (arith, within, ok)) c.in-Ok.ensures.bytes c.in-Ok.ensures.end c.in-Ok.ensures.cause)
          c.in-Ok-text_lines.ensures.text
          (ap (λ l. map (λ line. chars line.now) l) c.as_slice.ensures.value ∙ c.in-Ok-text_lines.ensures.lines)
          c.in-Ok-answer_of.ensures
          c.as_bytes.ensures.value
          c.put_all.ensures.bytes
          c.put_all.ensures.prefix
          c.put_all.ensures.cause);
    }
