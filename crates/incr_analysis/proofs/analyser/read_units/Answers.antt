use Rattle.std.proofs.Common.{◌∙◌, Some, None}
use Rattle.kumir_tree.specs.Units.{placed_of}
use Rattle.incr_analysis.specs.Full.{IsReadAt}
use Rattle.incr_analysis.specs.Answers.{IsSoundAt}
use Rattle.incr_analysis.proofs.Along.{along_next}
use Rattle.incr_analysis.proofs.Parts.{span_from_one, span_within}
use Rattle.incr_analysis.proofs.Seen.{sees_then, sees_on}
use Rattle.incr_analysis.proofs.analyser.read_units.Goals as goal

pub returns-in-Some-clause-seen : goal.returns-in-Some-clause-seen
returns-in-Some-clause-seen g c = sees_then _ _ _ (Some c.in-Some.newer) c.loop-i.invariant.seen c.in-Some.ensures.seen

pub read_span-requires-clause-within : goal.read_span-requires-clause-within
read_span-requires-clause-within g c = span_within _ c.args.spans.now c.loop-i.i _ c.requires.spans c.loop-i-test.true

pub read_span-requires-clause-from_one : goal.read_span-requires-clause-from_one
read_span-requires-clause-from_one g c = span_from_one _ c.args.spans.now c.loop-i.i _ c.requires.spans c.loop-i-test.true

pub loop-i-preserved : goal.loop-i-preserved
loop-i-preserved g c = record {
  read = along_next placed_of (IsReadAt c.args.lines.now) c.args.spans.now c.loop-i.i _ _ _ _ c.loop-i-test.true c.loop-i.invariant.read c.in_ok-read_span.ensures.read c.in_ok-push.ensures.ok;
  sound = along_next placed_of (IsSoundAt _) c.args.spans.now c.loop-i.i _ _ _ _ c.loop-i-test.true c.loop-i.invariant.sound c.in_ok-read_span.ensures.sound c.in_ok-push.ensures.ok;
  seen = sees_on _ _ _ None c.loop-i.invariant.seen c.in_default.ensures.seen;
  name = c.in_default.ensures.name ∙ c.loop-i.invariant.name;
}
