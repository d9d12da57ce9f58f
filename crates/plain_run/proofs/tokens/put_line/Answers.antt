use Rattle.std.proofs.Common.{◌∙◌, [], ◌∷◌}
use Rattle.std.specs.Str.{chars}
use Rattle.std.proofs.lemmas.Result.{on_ok_weaker, err_from_is_err_and}
use Rattle.plain_run.proofs.Prints.{wanted_none, line_whole, line_prefix}
use Rattle.plain_run.proofs.tokens.put_line.Goals as goal

pub returns-in_err-found-clause-prefix : goal.returns-in_err-found-clause-prefix
returns-in_err-found-clause-prefix g c =
    let p = err_from_is_err_and c.from_residual.result c.from_residual.ensures.1 in
    wanted_none c.from_residual.result p.0 c.args.number (chars c.args.line.now ∷ []) (g.O.Sink.state c.args.output.now) p.1 p.2

pub returns-in_err-printed-clause-prefix : goal.returns-in_err-printed-clause-prefix
returns-in_err-printed-clause-prefix g c =
    let p = err_from_is_err_and c.from_residual-in_err-printed.result c.from_residual-in_err-printed.ensures.1 in
    wanted_none c.from_residual-in_err-printed.result p.0 c.args.number (chars c.args.line.now ∷ []) (g.O.Sink.state c.args.output.now) p.1 p.2

pub returns-clause-whole : goal.returns-clause-whole
returns-clause-whole g c = on_ok_weaker c.put_all.result (line_whole c.args.number (chars c.args.line.now) c.in_ok-found.found.tokens c.in_ok-found.found.fault c.as_bytes.result.now (g.O.Sink.state c.args.output.now) (g.O.Sink.state c.put_all.new.output) c.in_ok-found.ensures (c.as_bytes.ensures.value ∙ c.in_ok-printed.ensures)) c.put_all.ensures.bytes

pub returns-clause-prefix : goal.returns-clause-prefix
returns-clause-prefix g c = line_prefix c.put_all.result c.args.number (chars c.args.line.now) c.in_ok-found.found.tokens c.in_ok-found.found.fault c.as_bytes.result.now (g.O.Sink.state c.args.output.now) (g.O.Sink.state c.put_all.new.output) c.in_ok-found.ensures (c.as_bytes.ensures.value ∙ c.in_ok-printed.ensures) c.put_all.ensures.prefix
