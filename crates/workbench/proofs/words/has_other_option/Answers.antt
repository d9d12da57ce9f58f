use Rattle.std.proofs.Common.{rules, ◌∙◌}
use Rattle.std.specs.String.{string_bytes}
use Rattle.std.proofs.lemmas.Iterator.{YieldsList-from_slice}
use Rattle.std.proofs.lemmas.Iterator.Search.{any_from_yields_List}
use Rattle.clap.proofs.WalkLemmas.{list_any-map}
use Rattle.workbench.specs.Words.{is_other_option}
use Rattle.workbench.proofs.words.has_other_option.Goals as goal

pub returns : goal.returns
returns c =
    let words = c.args.words.now in
    any_from_yields_List (λ word. is_other_option (string_bytes word)) _ _ _ c.any.ensures.ran (YieldsList-from_slice words cc) (λ x b q h. search rules)
    ∙ list_any-map is_other_option (λ word. string_bytes word) words
