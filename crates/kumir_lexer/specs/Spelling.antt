-- How keywords and signs are spelled: two tables, and how they are read.
use Rattle.std.specs.Prelude.{ℕ, Bool, if◌then◌else◌, List, [], ◌∷◌, map, Option, Some, None}
use Rattle.std.specs.Str.{bytes_eq}
use denote.Enum.Bare.{sameb}
use Rattle.kumir_tree.specs.declared.token.Key.{Key}
use Rattle.kumir_tree.specs.contracts.token.Key as key
use Rattle.kumir_tree.specs.declared.token.Sign.{Sign}
use Rattle.kumir_tree.specs.contracts.token.Sign as sign
use Rattle.kumir_lexer.specs.declared.spelling.TheConstants.{KEYWORDS, SIGNS}

-- two texts are the same
abbrev pub is_text : List ℕ → List ℕ → Bool
is_text = bytes_eq

-- the first entry with this text
abbrev pub meaning : {T : Type 0} → List (List ℕ × T) → List ℕ → Option T
meaning [] text = None
meaning (e ∷ es) text = if is_text e.0 text then Some e.1 else meaning es text

-- the text of the first entry that passes, or nothing
abbrev pub spelled : {T : Type 0} → (T → Bool) → List (List ℕ × T) → List ℕ
spelled is [] = []
spelled is (e ∷ es) = if is e.1 then e.0 else spelled is es

-- the keyword that a text is, if it is one
unfoldable pub key_of : List ℕ → Option Key
key_of = meaning (map (λ e. (e.0.now, e.1)) KEYWORDS)

unfoldable pub key_spelling : Key → List ℕ
key_spelling k = spelled (sameb key.the_type k) (map (λ e. (e.0.now, e.1)) KEYWORDS)

-- the sign that a text is, if it is one
unfoldable pub sign_of : List ℕ → Option Sign
sign_of = meaning (map (λ e. (e.0.now, e.1)) SIGNS)

-- the spelling in which a sign is printed
unfoldable pub sign_spelling : Sign → List ℕ
sign_spelling s = spelled (sameb sign.the_type s) (map (λ e. (e.0.now, e.1)) SIGNS)
