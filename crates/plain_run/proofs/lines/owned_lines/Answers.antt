use Rattle.std.specs.Str.{chars, encode_utf8_all}
use Rattle.plain_run.proofs.Limits.{in_step, in_step_seen}
use Rattle.plain_run.proofs.lines.owned_lines.Goals as goal

pub loop-line-preserved : goal.loop-line-preserved
loop-line-preserved c = record {
  lines = in_step (λ line. chars line.now) c.args.lines.now c.loop-line.line-index _ c.loop-line.owned c.push.new.self _ c.loop-line-test.true c.loop-line.invariant.lines c.in_ok-line_of.ensures.line c.in_ok-push.ensures.ok;
  spelled = in_step_seen encode_utf8_all (λ line. line.now) c.args.lines.now c.loop-line.line-index _ c.loop-line.owned c.push.new.self _ c.loop-line-test.true c.loop-line.invariant.spelled c.in_ok-line_of.ensures.spelled c.in_ok-push.ensures.ok;
}
