-- What holds of the versions that are kept.
use Rattle.std.specs.Prelude.{◌≡◌, ℕ, List, length}
use Rattle.text_versions.specs.declared.edit.Edit.{Edit}
use Rattle.text_versions.specs.Edits.{text_after}

-- the newest version has the number of the accepted edits, and its text is what they make
pub record AreVersions (newest : ℕ) (text : List (List ℕ)) (edits : List Edit) : Type 0 where
  pub number : newest ≡ length edits
  pub text_is : text ≡ text_after edits
