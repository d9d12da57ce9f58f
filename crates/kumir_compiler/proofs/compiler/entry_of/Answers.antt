use Rattle.std.proofs.Common.{◌≡◌, [], rules}
use Rattle.kumir_compiler.proofs.ProgramMade.{no_entry, entry_there, entry_taken}
use Rattle.kumir_compiler.proofs.compiler.entry_of.Goals as goal

pub returns-in-empty : goal.returns-in-empty
returns-in-empty c = λ p e. no_entry c.args.units.now p c.in-empty.len_below e

pub returns-then-is_empty : goal.returns-then-is_empty
returns-then-is_empty c =
    let test = c.is_empty.ensures in
    let holds = c.if-is_empty.true in
    let none : c.first-item.result.params ≡ [] = search rules in
    λ p e. entry_there c.args.units.now c.first-item.result p c.in-len1-up.len_at_least c.first-item.is e none

pub returns-else-is_empty : goal.returns-else-is_empty
returns-else-is_empty c =
    let test = c.is_empty.ensures in
    let fails = c.if-is_empty.false in
    let some : c.first-item.result.params ≡ [] → ⊥ = search rules in
    λ p e. entry_taken c.args.units.now c.first-item.result p c.in-len1-up.len_at_least c.first-item.is e some
