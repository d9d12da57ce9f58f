-- The classes of tokens, as sets of texts. A text is the list of its characters.
use Rattle.std.specs.Prelude.{◌≡◌, ℕ, ◌+◌, ◌*◌, ◌-◌, ◌≤◌, Bool, true, false, ◌&&◌, ◌||◌, ◌==◌, nat_le, List, [], ◌∷◌, ◌++◌, length, take, is_some}
use Rattle.std.specs.List.{AllByRecursion, fold}
use Rattle.unicode.specs.Binary.{is_alphabetic}
use Rattle.kumir_lexer.specs.Spelling.{sign_of}
use Rattle.kumir_lexer.specs.declared.cutting.Class.{Class}
use Rattle.kumir_lexer.specs.declared.cutting.Class.TheVariants.{Word, Number, Real, Literal, Sign}

-- ---- characters

-- a space, a tab or a space that does not break
abbrev pub is_blank : ℕ → Bool
is_blank c = c == 32 || c == 9 || c == 160

-- `|` or `#`
abbrev pub begins_comment : ℕ → Bool
begins_comment c = c == 124 || c == 35

abbrev pub is_digit : ℕ → Bool
is_digit c = nat_le 48 c && nat_le c 57

-- a letter, `_` or `@`
abbrev pub begins_word : ℕ → Bool
begins_word c = is_alphabetic c || c == 95 || c == 64

abbrev pub in_word : ℕ → Bool
in_word c = begins_word c || is_digit c

-- `e` or `E`, Latin or Cyrillic
abbrev pub marks_exponent : ℕ → Bool
marks_exponent c = c == 101 || c == 69 || c == 1077 || c == 1045

-- `+` or `-`
abbrev pub is_plus_or_minus : ℕ → Bool
is_plus_or_minus c = c == 43 || c == 45

abbrev pub is_quote : ℕ → Bool
is_quote c = c == 34

-- ---- numbers

-- one digit or more
abbrev pub IsDigits : List ℕ → Type 0
IsDigits [] = ⊥
IsDigits (c ∷ cs) = AllByRecursion (λ d. is_digit d ≡ true) (c ∷ cs)

-- the number that digits write
abbrev pub value : List ℕ → ℕ
value ds = fold (λ n d. 10 * n + (d - 48)) 0 ds

-- a mark, a sign or none, and digits
pub data IsExponent : List ℕ → Type 0 where
  unsigned : {c : ℕ} {ds : List ℕ} → marks_exponent c ≡ true → IsDigits ds → IsExponent (c ∷ ds)
  signed : {c s : ℕ} {ds : List ℕ} → marks_exponent c ≡ true → is_plus_or_minus s ≡ true → IsDigits ds → IsExponent (c ∷ s ∷ ds)

-- digits, a point and digits, with an exponent or without; or digits and an exponent
pub data IsReal : List ℕ → Type 0 where
  pointed : (ds es : List ℕ) → IsDigits ds → IsDigits es → IsReal (ds ++ 46 ∷ es)
  pointed_and_scaled : (ds es xs : List ℕ) → IsDigits ds → IsDigits es → IsExponent xs → IsReal (ds ++ 46 ∷ (es ++ xs))
  scaled : (ds xs : List ℕ) → IsDigits ds → IsExponent xs → IsReal (ds ++ xs)

-- ---- the classes

-- After a word that is no keyword a digit may begin a word.
abbrev pub begins : Bool → ℕ → Bool
begins is_after_name c = begins_word c || (is_after_name && is_digit c)

abbrev pub starts_word : Bool → List ℕ → Bool
starts_word is_after_name [] = false
starts_word is_after_name (c ∷ cs) = begins is_after_name c

abbrev pub HasShape : Class → List ℕ → Type 0
HasShape Word [] = ⊥
HasShape Word (c ∷ cs) = AllByRecursion (λ d. in_word d ≡ true) cs
HasShape Number text = IsDigits text
HasShape Real text = IsReal text
HasShape Literal text = (cs : List ℕ) × AllByRecursion (λ c. is_quote c ≡ false) cs × (text ≡ 34 ∷ (cs ++ 34 ∷ []))
HasShape Sign text = is_some (sign_of text) ≡ true

-- whether a text of the class begins a word
abbrev pub is_word : Class → Bool
is_word Word = true
is_word Number = false
is_word Real = false
is_word Literal = false
is_word Sign = false

-- The texts of a class. Where a word may begin nothing else is tried, so after a name a digit begins no number.
abbrev pub IsMember : Bool → Class → List ℕ → Type 0
IsMember is_after_name class text = (starts_word is_after_name text ≡ is_word class) × HasShape class text

-- the first n characters are of the class
abbrev pub Stands : Bool → Class → List ℕ → ℕ → Type 0
Stands is_after_name class text n = (n ≤ length text) × IsMember is_after_name class (take n text)

-- they are the longest token that is a prefix
pub record Longest (is_after_name : Bool) (class : Class) (text : List ℕ) (n : ℕ) : Type 0 where
  pub stands : Stands is_after_name class text n
  pub longest : (other : Class) (m : ℕ) → Stands is_after_name other text m → m ≤ n

-- no token is a prefix
abbrev pub NoneStands : Bool → List ℕ → Type 0
NoneStands is_after_name text = (class : Class) (n : ℕ) → Stands is_after_name class text n → ⊥
