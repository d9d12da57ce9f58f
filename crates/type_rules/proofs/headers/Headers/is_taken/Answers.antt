use Rattle.std.proofs.Common.{sym, ◌∙◌}
use Rattle.type_rules.specs.Headers.{callees_of}
use Rattle.type_rules.proofs.Lookup.{not_found}
use Rattle.type_rules.proofs.headers.Headers.is_taken.Goals as goal

pub returns-clause-free : goal.returns-clause-free
returns-clause-free c = λ free. not_found c.find.result (callees_of c.args.self.now) c.args.name.now c.find.ensures (sym c.is_some.ensures ∙ free)
