-- The edits that changes stand for.
use Rattle.std.proofs.Common.{◌≡◌, ℕ, ◌+◌, ◌-◌, ◌≤◌, true, ◌&&◌, if◌then◌else◌, Some, Err, List, [], ◌∷◌, length, sym, ap, ◌∙◌, arith}
use Rattle.std.specs.Prelude.{slice_get, nat_le}
use Rattle.std.proofs.lemmas.Bool.{le-leb, and_from}
use Rattle.std.proofs.lemmas.Option.{get_or_from_slice_get}
use Rattle.text_versions.specs.declared.limits.Limits.{Limits}
use Rattle.text_versions.specs.declared.edit.Edit.{Edit}
use Rattle.text_versions.specs.declared.versions.ApplyRefusal.TheVariants.{Range}
use Rattle.text_versions.specs.Edits.{text_after, answer_to}
use Rattle.text_versions.specs.Changes.{changed, line_of, is_change_in_range, edit_of_change, answer_to_change}

-- the edit that puts the changed line in its place
pub changed_edit : (lines : List (List ℕ)) (line from count : ℕ) (text old : List ℕ) (e : Edit) → slice_get lines (line - 1) ≡ Some old → e ≡ record { from = line; count = 1; lines = changed old from count text ∷ [] } → e ≡ edit_of_change lines line from count text
changed_edit lines line from count text old e found is =
    is ∙ ap (λ l. record { from = line; count = 1; lines = changed l from count text ∷ [] }) (sym (get_or_from_slice_get lines (line - 1) old [] found))

in_range : (lines : List (List ℕ)) (line from count : ℕ) (old : List ℕ) → 1 ≤ line → line ≤ length lines → slice_get lines (line - 1) ≡ Some old → from + count ≤ length old → is_change_in_range lines line from count ≡ true
in_range lines line from count old some within found range =
    let same = ap length (get_or_from_slice_get lines (line - 1) old [] found) in
    and_from (nat_le 1 line && nat_le line (length lines)) (nat_le (from + count) (length (line_of lines line)))
    (and_from (nat_le 1 line) (nat_le line (length lines)) (le-leb 1 line some) (le-leb line (length lines) within))
    (le-leb (from + count) (length (line_of lines line)) (omega arith))

-- a change in range is answered as that edit
pub changed_answer : (limits : Limits) (edits : List Edit) (line from count : ℕ) (text old : List ℕ) (e : Edit) → 1 ≤ line → line ≤ length (text_after edits) → slice_get (text_after edits) (line - 1) ≡ Some old → from + count ≤ length old → e ≡ edit_of_change (text_after edits) line from count text → answer_to limits edits e ≡ answer_to_change limits edits line from count text
changed_answer limits edits line from count text old e some within found range is =
    ap (answer_to limits edits) is
    ∙ sym (ap (λ b. if b then answer_to limits edits (edit_of_change (text_after edits) line from count text) else Err Range) (in_range (text_after edits) line from count old some within found range))

-- both, for a text that the edits make
pub changed_as_edit : (limits : Limits) (edits : List Edit) (lines : List (List ℕ)) (line from count : ℕ) (text old : List ℕ) (e : Edit) → lines ≡ text_after edits → (1 ≤ line) × (line ≤ length lines) × (slice_get lines (line - 1) ≡ Some old) → from + count ≤ length old → e ≡ record { from = line; count = 1; lines = changed old from count text ∷ [] } → (answer_to limits edits e ≡ answer_to_change limits edits line from count text) × (e ≡ edit_of_change (text_after edits) line from count text)
changed_as_edit limits edits lines line from count text old e are there range is =
    let within : line ≤ length (text_after edits) = omega (arith, ap length are, there.1) in
    let found : slice_get (text_after edits) (line - 1) ≡ Some old = ap (λ l. slice_get l (line - 1)) (sym are) ∙ there.2 in
    let same = changed_edit (text_after edits) line from count text old e found is in
    (changed_answer limits edits line from count text old e there.0 within found range same, same)
