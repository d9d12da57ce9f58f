use Rattle.std.proofs.Common.{rules, ◌≡◌, ◌∙◌, ap, ap₂, codes}
use Rattle.std.proofs.lemmas.Result.{IfOk-weaker}
use Rattle.clap.specs.Simple.{App, app_of, new_app, with_subcommand}
use Rattle.workbench.specs.Program.{with_settings}
use Rattle.workbench.proofs.words.program.Goals as goal

pub returns : goal.returns
returns c =
    let set : app_of c.subcommand_required.result ≡ with_settings (new_app (codes "workbench")) = search rules in
    let with_tokens = c.in_ok-subcommand.ensures.shape c.new-2.ensures.local
    ∙ ap₂ with_subcommand set (ap (λ (a : App). a.top) c.new-2.ensures.app) in
    let with_check = c.in_ok-subcommand-2.ensures.shape c.new-3.ensures.local
    ∙ ap₂ with_subcommand with_tokens (ap (λ (a : App). a.top) c.new-3.ensures.app) in
    let with_plain = c.in_ok-subcommand-3.ensures.shape c.in_ok-plain.ensures.local
    ∙ ap₂ with_subcommand with_check (ap (λ (a : App). a.top) c.in_ok-plain.ensures.shape) in
    IfOk-weaker c.subcommand-4.result _ _
    (λ command adds. adds.shape c.in_ok-sample.ensures.local
    ∙ ap₂ with_subcommand with_plain (ap (λ (a : App). a.top) c.in_ok-sample.ensures.shape))
    c.subcommand-4.ensures
