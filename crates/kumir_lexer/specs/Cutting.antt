-- The cutting of a line, its tokenization: which tokens it has, and its first fault. A line is the list of its characters.
use Rattle.std.specs.Prelude.{◌≡◌, ℕ, ◌-◌, ◌<◌, ◌≤◌, ◌⊎◌, pos, Bool, true, false, ◌||◌, ◌==◌, if◌then◌else◌, List, [], ◌∷◌, ◌++◌, length, take, drop, slice_index, slice_range, Option, Some, None, codes}
use Rattle.kumir_tree.specs.declared.token.Token.{Token}
use Rattle.kumir_tree.specs.declared.token.Token.TheVariants as token
use Rattle.kumir_tree.specs.declared.token.Spanned.{Spanned}
use Rattle.kumir_tree.specs.declared.fault_codes.TheConstants.{BAD_CHARACTER, OPEN_LITERAL, NUMBER_TOO_LARGE, REAL}
use Rattle.kumir_lexer.specs.Spelling.{is_text, key_of, sign_of}
use Rattle.kumir_lexer.specs.Classes.{is_blank, begins_comment, value, Longest, NoneStands}
use Rattle.kumir_lexer.specs.Joined.{joined}
use Rattle.kumir_lexer.specs.declared.cutting.Class.{Class}
use Rattle.kumir_lexer.specs.declared.cutting.Class.TheVariants.{Word, Number, Real, Literal, Sign}
use Rattle.kumir_lexer.specs.declared.cutting.LexFault.{LexFault}

-- ---- what a text of a class says

-- the words `вещ` and `вещтаб`
abbrev pub names_reals : List ℕ → Bool
names_reals text = is_text (codes "вещ") text || is_text (codes "вещтаб") text

-- the token that a text of the class spells
abbrev pub Spells : Class → List ℕ → Token → Type 0
Spells Word text (token.Key k) = key_of text ≡ Some k
Spells Word text (token.Named x) = (key_of text ≡ None) × (names_reals text ≡ false) × (x ≡ text)
Spells Number text (token.Number n) = (value text ≤ 2147483647) × (n ≡ pos (value text))
Spells Literal text (token.Literal cs) = text ≡ 34 ∷ (cs ++ 34 ∷ [])
Spells Sign text (token.Sign s) = sign_of text ≡ Some s
Spells class text other = ⊥

-- a text of the class is a fault with this code: a number too large, or what belongs to reals
abbrev pub IsRefused : Class → List ℕ → ℕ → Type 0
IsRefused Word text code = (names_reals text ≡ true) × (code ≡ REAL)
IsRefused Number text code = (2147483647 < value text) × (code ≡ NUMBER_TOO_LARGE)
IsRefused Real text code = code ≡ REAL
IsRefused Literal text code = ⊥
IsRefused Sign text code = ⊥

-- the fault of a character at which no token stands: an open literal, a division sign, a bad character
abbrev pub bad_code : ℕ → ℕ
bad_code c = if c == 34 then OPEN_LITERAL else (if c == 47 then REAL else BAD_CHARACTER)

-- a prefix of the text is a fault with this code
abbrev pub IsFaulty : Bool → List ℕ → ℕ → Type 0
IsFaulty is_after_name text code =
    (NoneStands is_after_name text × (code ≡ bad_code (slice_index text 0)))
    ⊎ ((class : Class) × (n : ℕ) × Longest is_after_name class text n × IsRefused class (take n text) code)

-- ---- a whole line

-- only blanks from one place up to another
abbrev pub OnlyBlanks : List ℕ → ℕ → ℕ → Type 0
OnlyBlanks line from to = (k : ℕ) → from ≤ k → k < to → is_blank (slice_index line k) ≡ true

-- from one place up to another stand only blanks, and there a token is to begin
pub record Reaches (line : List ℕ) (from to : ℕ) : Type 0 where
  pub behind : from ≤ to
  pub within : to < length line
  pub blanks : OnlyBlanks line from to
  pub begins : (is_blank (slice_index line to) || begins_comment (slice_index line to)) ≡ false

-- from this place on stand only blanks, up to the end or to a comment
pub record IsOver (line : List ℕ) (from : ℕ) : Type 0 where
  pub to : ℕ
  pub behind : from ≤ to
  pub within : to ≤ length line
  pub blanks : OnlyBlanks line from to
  pub ends : to < length line → begins_comment (slice_index line to) ≡ true

-- the longest token at its place, and what it spells
pub record IsToken (is_after_name : Bool) (line : List ℕ) (t : Spanned) : Type 0 where
  pub class : Class
  pub ordered : t.from ≤ t.to
  pub longest : Longest is_after_name class (drop t.from line) (t.to - t.from)
  pub spells : Spells class (slice_range line t.from t.to) t.token

abbrev pub is_name : Token → Bool
is_name (token.Named x) = true
is_name (token.Key k) = false
is_name (token.Number n) = false
is_name (token.Literal cs) = false
is_name (token.Sign s) = false

-- From a place on the line has these tokens, each word for itself, up to the first fault or to the end.
-- `is_after_name` says that the token before is a word that is no keyword.
abbrev pub Cuts : Bool → ℕ → List ℕ → List Spanned → Option LexFault → Type 0
Cuts is_after_name at line [] None = IsOver line at
Cuts is_after_name at line [] (Some fault) = Reaches line at fault.place × IsFaulty is_after_name (drop fault.place line) fault.code
Cuts is_after_name at line (t ∷ ts) fault = Reaches line at t.from × IsToken is_after_name line t × Cuts (is_name t.token) t.to line ts fault

-- the line has these tokens, with runs of words joined to names, and this first fault
abbrev pub Cut : List ℕ → List Spanned → Option LexFault → Type 0
Cut line tokens fault = (words : List Spanned) × Cuts false 0 line words fault × (tokens ≡ joined words)
