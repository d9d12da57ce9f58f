use Rattle.std.proofs.Common.{◌∙◌, sym, subst}
use Rattle.kumir_tree.specs.Lines.{IsLine}
use Rattle.text_versions.proofs.Lines.{changed_is_line, changed_spelled}
use Rattle.text_versions.proofs.change.changed_line.Goals as goal

pub from_string-requires : goal.from_string-requires
from_string-requires c =
    let same = changed_spelled c.in_ok-text.text _ c.args.line.now _ c.args.added.now c.args.from c.args.count c.in_ok-text.ensures c.as_str.ensures.characters c.as_str-2.ensures.characters in
    subst IsLine (sym same) (changed_is_line c.args.line.now c.args.added.now c.args.from c.args.count c.as_str.ensures.one_line c.as_str-2.ensures.one_line)

pub returns : goal.returns
returns c = c.from_string.ensures ∙ changed_spelled c.in_ok-text.text _ c.args.line.now _ c.args.added.now c.args.from c.args.count c.in_ok-text.ensures c.as_str.ensures.characters c.as_str-2.ensures.characters
