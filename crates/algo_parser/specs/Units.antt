-- What is read from the lines of a unit or of a prelude alone (docs/LANGUAGE.md, "Units" and "The margin").
use Rattle.std.specs.Prelude.{◌≡◌, ◌≢◌, ℕ, ◌+◌, ◌<◌, Bool, true, false, if◌then◌else◌, List, [], ◌∷◌, ◌++◌, Option, Some, None, slice_range}
use Rattle.std.specs.List.{flat_map, list_any}
use Rattle.km_base.specs.declared.performers.Performer.{Performer}
use Rattle.km_base.specs.declared.performers.Performer.TheVariants as performer
use Rattle.km_base.specs.declared.performers.Performers.{Performers}
use Rattle.kumir_tree.specs.declared.token.Token.{Token}
use Rattle.kumir_tree.specs.declared.token.Spanned.{Spanned}
use Rattle.kumir_tree.specs.declared.unit.Fault.{Fault}
use Rattle.kumir_tree.specs.declared.fault_codes.TheConstants.{NOT_UNDERSTOOD, NESTED_TOO_DEEP, UNKNOWN_PERFORMER}
use Rattle.kumir_tree.specs.Part.{Head}
use Rattle.kumir_tree.specs.Piece as form
use Rattle.kumir_tree.specs.Piece.{Piece}
use Rattle.kumir_tree.specs.Unit.{Ending, Faulty, Known}
use Rattle.kumir_tree.specs.Sound.{no_performers, HasDimensions, KnownHolds, IsPreludeRead, IsUnitRead}
use Rattle.kumir_lexer.specs.declared.cutting.LexFault.{LexFault}
use Rattle.kumir_lexer.specs.Cutting.{Cut}
use Rattle.performer_kit.specs.Commands.{performer_named}
use Rattle.expr_forms.specs.Tokens.{tokens_of}
use Rattle.expr_forms.specs.Brackets.{IsDeep}
use Rattle.expr_forms.specs.Forms.{IsForm}
use Rattle.expr_forms.specs.Answers.{HasNoForm}
use Rattle.line_pieces.specs.declared.pieces.Piece as range
use Rattle.line_pieces.specs.Ends.{Pieces}
use Rattle.unit_grammar.specs.Grammar.{Placed}
use Rattle.unit_grammar.specs.Structure.{StructureEnds}

-- ---- what a line says

-- what a piece turns out to be
pub data Heard : Type 0 where
  Understood : Piece → Heard
  NotUnderstood : Heard
  TooDeep : Heard

abbrev pub Hears : List Token → Heard → Type 0
Hears tokens (Understood f) = (IsDeep tokens → ⊥) × IsForm tokens f
Hears tokens NotUnderstood = (IsDeep tokens → ⊥) × HasNoForm tokens
Hears tokens TooDeep = IsDeep tokens

-- each piece of the tokens, in order
abbrev pub HearsAll : List Token → List range.Piece → List Heard → Type 0
HearsAll tokens [] [] = Unit {0}
HearsAll tokens (p ∷ ps) (h ∷ hs) = Hears (slice_range tokens p.from p.to) h × HearsAll tokens ps hs
HearsAll tokens ps hs = ⊥

-- the first lexical fault of a line, and its pieces up to there
pub record Said : Type 0 where
  pub fault : Option LexFault
  pub pieces : List Heard

abbrev pub Says : List ℕ → Said → Type 0
Says line said = (tokens : List Spanned) × (pieces : List range.Piece) × Cut line tokens said.fault × Pieces (tokens_of tokens) pieces × HearsAll (tokens_of tokens) pieces said.pieces

abbrev pub SayAll : List (List ℕ) → List Said → Type 0
SayAll [] [] = Unit {0}
SayAll (line ∷ lines) (s ∷ ss) = Says line s × SayAll lines ss
SayAll lines ss = ⊥

-- ---- faults and forms, each with its line, which is counted from a number on

abbrev pub fault_at : ℕ → ℕ → Fault
fault_at line code = record { line = line; code = code }

abbrev pub lexical_at : ℕ → Option LexFault → List Fault
lexical_at line None = []
lexical_at line (Some fault) = fault_at line fault.code ∷ []

abbrev pub lexical_faults : ℕ → List Said → List Fault
lexical_faults line [] = []
lexical_faults line (s ∷ ss) = lexical_at line s.fault ++ lexical_faults (line + 1) ss

abbrev pub piece_fault : ℕ → Heard → List Fault
piece_fault line (Understood f) = []
piece_fault line NotUnderstood = fault_at line NOT_UNDERSTOOD ∷ []
piece_fault line TooDeep = fault_at line NESTED_TOO_DEEP ∷ []

abbrev pub piece_faults : ℕ → List Said → List Fault
piece_faults line [] = []
piece_faults line (s ∷ ss) = flat_map (piece_fault line) s.pieces ++ piece_faults (line + 1) ss

abbrev pub form_at : ℕ → Heard → List Placed
form_at line (Understood f) = (line, f) ∷ []
form_at line other = []

abbrev pub forms_of : ℕ → List Said → List Placed
forms_of line [] = []
forms_of line (s ∷ ss) = flat_map (form_at line) s.pieces ++ forms_of (line + 1) ss

-- ---- headers and performers that count, whatever else is there

-- the first piece of the first line, where this line has no lexical fault and that piece is a header
abbrev pub header_in : Option LexFault → List Heard → Option Head
header_in None (Understood (form.Header h) ∷ more) = Some h
header_in fault pieces = None

abbrev pub header_of : List Said → Option Head
header_of [] = None
header_of (s ∷ ss) = header_in s.fault s.pieces

-- the names of performers that are used on lines without a lexical fault
abbrev pub use_in : ℕ → Heard → List (ℕ × List ℕ)
use_in line (Understood (form.Uses x)) = (line, x) ∷ []
use_in line other = []

abbrev pub uses_on : ℕ → Option LexFault → List Heard → List (ℕ × List ℕ)
uses_on line None pieces = flat_map (use_in line) pieces
uses_on line (Some fault) pieces = []

abbrev pub uses_of : ℕ → List Said → List (ℕ × List ℕ)
uses_of line [] = []
uses_of line (s ∷ ss) = uses_on line s.fault s.pieces ++ uses_of (line + 1) ss

abbrev pub names_robot : Option Performer → Bool
names_robot (Some performer.Robot) = true
names_robot other = false

abbrev pub names_pen : Option Performer → Bool
names_pen (Some performer.Pen) = true
names_pen other = false

abbrev pub performers_of : List (ℕ × List ℕ) → Performers
performers_of uses = record {
  robot = list_any (λ u. names_robot (performer_named u.1)) uses;
  pen = list_any (λ u. names_pen (performer_named u.1)) uses;
}

abbrev pub unknown_at : ℕ → Option Performer → List Fault
unknown_at line None = fault_at line UNKNOWN_PERFORMER ∷ []
unknown_at line (Some performer) = []

abbrev pub unknown_of : List (ℕ × List ℕ) → List Fault
unknown_of uses = flat_map (λ u. unknown_at u.0 (performer_named u.1)) uses

-- ---- a whole unit

-- the faults of the first kind that occurs: lexical ones, those of pieces, the first one of the structure
pub record Ends (prelude : Bool) (said : List Said) (ending : Ending) : Type 0 where
  pub lexical : lexical_faults 0 said ≢ [] → ending ≡ Faulty (lexical_faults 0 said)
  pub pieces : lexical_faults 0 said ≡ [] → piece_faults 0 said ≢ [] → ending ≡ Faulty (piece_faults 0 said)
  pub structure : lexical_faults 0 said ≡ [] → piece_faults 0 said ≡ [] → StructureEnds prelude (forms_of 0 said) ending

-- what the lines make together
pub record Makes (prelude : Bool) (said : List Said) (known : Known) : Type 0 where
  pub header : known.head ≡ (if prelude then None else header_of said)
  pub performers : known.performers ≡ (if prelude then performers_of (uses_of 0 said) else no_performers)
  pub unknown : known.unknown ≡ (if prelude then unknown_of (uses_of 0 said) else [])
  pub ending : Ends prelude said known.ending

-- what is read from these lines, which are a prelude or a unit
pub record UnitReads (lines : List (List ℕ)) (prelude : Bool) (known : Known) : Type 0 where
  pub said : List Said
  pub lines_say : SayAll lines said
  pub makes : Makes prelude said known

-- ---- soundness

-- What is read of so many lines is sound, and its lines are among them. So a unit that is placed in a text of fewer than
-- 2^32 lines is sound there.
abbrev pub IsSoundRead : ℕ → Bool → Known → Type 0
IsSoundRead lines true known = IsPreludeRead known × KnownHolds (λ line. line < lines) HasDimensions known
IsSoundRead lines false known = IsUnitRead known × KnownHolds (λ line. line < lines) HasDimensions known
