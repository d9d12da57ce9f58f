use Rattle.std.proofs.Common.{◌∙◌}
use Rattle.std.specs.Str.{chars}
use Rattle.std.proofs.lemmas.Result.{err_from_is_err_and}
use Rattle.std.proofs.Common.{refl, map, sym, ap, subst}
use Rattle.std.specs.Prelude.{Err, IfErr}
use Rattle.plain_run.specs.Puts.{PutsPrefixOf}
use Rattle.plain_run.proofs.Prints.{puts_none, lines_more, lines_prefix}
use Rattle.plain_run.proofs.tokens.put_lines.Goals as goal

pub loop-i-preserved : goal.loop-i-preserved
loop-i-preserved g c = record {
  so_far = lines_more (λ line. chars line.now) c.args.lines.now c.loop-i.i _ (g.O.Sink.state c.args.output.now) (g.O.Sink.state c.loop-i.output) (g.O.Sink.state c.put_line.new.output) c.loop-i-test.true c.loop-i.invariant.so_far c.in_ok-put_line.ensures.whole;
  stood = c.in_ok-put_line.ensures.cause ∙ c.loop-i.invariant.stood;
}

pub returns-in_err-put_line-clause-prefix : goal.returns-in_err-put_line-clause-prefix
returns-in_err-put_line-clause-prefix g c =
    let p = err_from_is_err_and c.from_residual.result c.from_residual.ensures.1 in
    subst (λ r. IfErr r (λ fault. PutsPrefixOf fault 1 (map (λ line. chars line.now) c.args.lines.now) (g.O.Sink.state c.args.output.now) (g.O.Sink.state c.put_line.new.output))) (sym (p.1 ∙ ap Err p.2)) (lines_prefix _ (λ line. chars line.now) c.args.lines.now c.loop-i.i _ (g.O.Sink.state c.args.output.now) (g.O.Sink.state c.loop-i.output) (g.O.Sink.state c.put_line.new.output) c.loop-i-test.true c.loop-i.invariant.so_far c.in_err-put_line.ensures.prefix)

pub loop-i-init : goal.loop-i-init
loop-i-init g c = record { so_far = puts_none 1 (g.O.Sink.state c.args.output.now); stood = refl }
