-- Values as plain data, and their print.
use Rattle.std.specs.Prelude.{ℕ, true, false, List, [], ◌∷◌}
use Rattle.std.specs.Fmt.{signed_decimal}
use Rattle.kumir_tree.specs.declared.kind.Kind.{Kind}
use Rattle.kumir_tree.specs.declared.kind.Kind.TheVariants as kind
use Rattle.kumir_values.specs.declared.value.Value.{Value}
use Rattle.kumir_values.specs.declared.value.Value.TheVariants.{Whole, Truth}

abbrev pub kind_of : Value → Kind
kind_of (Whole z) = kind.Whole
kind_of (Truth b) = kind.Truth

-- the bytes of the printed value: a plain decimal number, or `да` and `нет` in UTF-8
abbrev pub printed : Value → List ℕ
printed (Whole z) = signed_decimal z
printed (Truth true) = 0xD0 ∷ 0xB4 ∷ 0xD0 ∷ 0xB0 ∷ []
printed (Truth false) = 0xD0 ∷ 0xBD ∷ 0xD0 ∷ 0xB5 ∷ 0xD1 ∷ 0x82 ∷ []
