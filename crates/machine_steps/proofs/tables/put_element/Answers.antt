use Rattle.std.proofs.Common.{◌∙◌, ap, drop}
use Rattle.stack_code.specs.CodeState.{numbers}
use Rattle.machine_steps.proofs.TableChecks.{put_on}
use Rattle.machine_steps.proofs.tables.put_element.Goals as goal

pub returns-clause-acts : goal.returns-clause-acts
returns-clause-acts c =
    put_on _ _ c.args.running.now _ _ _ _ _ _ c.args.slot c.args.line
    (c.as_slice.ensures ∙ c.in_ok-index.ensures ∙ ap (numbers c.args.count) c.pop-value.ensures.left)
    (c.discard.ensures ∙ ap (drop c.args.count) c.pop-value.ensures.left)
    c.pop-value.ensures.value c.store_or_end.ensures.acts
