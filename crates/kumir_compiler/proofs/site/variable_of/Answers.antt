use Rattle.std.proofs.Common.{sym, ◌∙◌}
use Rattle.kumir_compiler.proofs.PlacesFound.{local_behind}
use Rattle.kumir_compiler.proofs.site.variable_of.Goals as goal

pub returns-else-place-site : goal.returns-else-place-site
returns-else-place-site c =
    local_behind c.args.site.now.names.now c.args.site.now.locals c.args.name.now c.in-Some.place (sym c.place_of.ensures ∙ c.in-Some.is) c.if-place-site.false
