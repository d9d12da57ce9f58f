use Rattle.std.proofs.Common.{◌∙◌}
use Rattle.kumir_compiler.proofs.LineChanged.{changed}
use Rattle.kumir_compiler.proofs.pending.PendingLines.change.Goals as goal

pub returns : goal.returns
returns c = λ front l behind e n.
    changed c.self.inside.lines.items front behind l c.index_mut-line.result.now c.args.behind c.args.what (c.self.view_is ∙ e) n c.index_mut-line.ensures.value
