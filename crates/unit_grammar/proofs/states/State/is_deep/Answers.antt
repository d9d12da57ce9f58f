use Rattle.std.proofs.Common.{◌∙◌, ◌+◌, ap, sym}
use Rattle.unit_grammar.specs.Stages.{open_blocks}
use Rattle.unit_grammar.specs.Machine.{stage_of}
use Rattle.unit_grammar.specs.Views.{top_of, state_of}
use Rattle.unit_grammar.proofs.Acts.{inside_opens, above, above_more}
use Rattle.unit_grammar.proofs.states.State.is_deep.Goals as goal

pub returns-in-Inside : goal.returns-in-Inside
returns-in-Inside c = above c.len.result (open_blocks (stage_of (state_of c.args.self.now)))
    (ap (λ s. open_blocks (stage_of (state_of s))) c.in-Inside.is ∙ (inside_opens (top_of c.in-Inside.field-0) c.in-Inside.body ∙ sym c.len.ensures))

pub returns-in-NeedsThen : goal.returns-in-NeedsThen
returns-in-NeedsThen c = above_more c.len-in-NeedsThen.result (open_blocks (stage_of (state_of c.args.self.now)))
    (ap (λ s. open_blocks (stage_of (state_of s))) c.in-NeedsThen.is ∙ ap (λ k. k + 1) (inside_opens (top_of c.in-NeedsThen.field-0) c.in-NeedsThen.body ∙ sym c.len-in-NeedsThen.ensures))

pub returns-in-NeedsCase : goal.returns-in-NeedsCase
returns-in-NeedsCase c = above_more c.len-in-NeedsCase.result (open_blocks (stage_of (state_of c.args.self.now)))
    (ap (λ s. open_blocks (stage_of (state_of s))) c.in-NeedsCase.is ∙ ap (λ k. k + 1) (inside_opens (top_of c.in-NeedsCase.field-0) c.in-NeedsCase.body ∙ sym c.len-in-NeedsCase.ensures))
