-- Which words of the command line are a command. docs/PROGRAM.md, "Commands".
use Rattle.std.specs.Prelude.{ℕ, Bool, false, ◌&&◌, ◌==◌, not, if◌then◌else◌, List, [], ◌∷◌, Option, Some, None, codes, nat_le}
use Rattle.std.specs.List.{list_any}
use Rattle.std.specs.Str.{bytes_eq}
use Rattle.km_base.specs.Limits.{usual_steps, most_steps}
use Rattle.decimals.specs.Numbers.{number_of}
use Rattle.workbench.specs.declared.words.Command.{Command}
use Rattle.workbench.specs.declared.words.Command.TheVariants.{Tokens, Check, Plain, Sample}

-- `plain` with a number of steps from 1 to the most
abbrev pub plain_within : Option ℕ → Option Command
plain_within None = None
plain_within (Some n) = if nat_le 1 n && nat_le n most_steps then Some (Plain n) else None

-- `sample` of a number
abbrev pub sample_of : Option ℕ → Option Command
sample_of None = None
sample_of (Some n) = Some (Sample n)

-- the command that these words are, if they are one. A word is the list of its bytes.
abbrev pub command_of : List (List ℕ) → Option Command
command_of [] = None
command_of (word ∷ []) =
    if bytes_eq word (codes "tokens") then Some Tokens
    else (if bytes_eq word (codes "check") then Some Check else (if bytes_eq word (codes "plain") then Some (Plain usual_steps) else None))
command_of (word ∷ (number ∷ [])) = if bytes_eq word (codes "sample") then sample_of (number_of number) else None
command_of (word ∷ (option ∷ (number ∷ []))) =
    if bytes_eq word (codes "plain") && bytes_eq option (codes "--steps") then plain_within (number_of number) else None
command_of (word ∷ (option ∷ (number ∷ (other ∷ rest)))) = None

-- the word begins with a hyphen (45)
abbrev pub begins_with_hyphen : List ℕ → Bool
begins_with_hyphen [] = false
begins_with_hyphen (byte ∷ rest) = byte == 45

-- the word begins with a hyphen and is not `--steps`
abbrev pub is_other_option : List ℕ → Bool
is_other_option word = begins_with_hyphen word && not (bytes_eq word (codes "--steps"))

-- one of the words begins with a hyphen and is not `--steps`
abbrev pub has_other_option : List (List ℕ) → Bool
has_other_option words = list_any is_other_option words
