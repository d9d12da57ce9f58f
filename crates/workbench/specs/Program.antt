-- What `clap` is told of the program's words, what it reads them as, and the command that this is.
use Rattle.std.specs.Prelude.{◌≡◌, ◌≢◌, true, if◌then◌else◌, List, [], Option, Some, None, MatchOption, codes}
use Rattle.std.specs.Str.{bytes_eq}
use Rattle.clap.specs.Words.{App, Row, Rule, Text, fault_of, first_of, new_app, new_rule, subcommand_of, subcommand_rows_of, with_rule, with_subcommand}
use Rattle.clap.specs.declared.parser.matches.ArgMatches.{ArgMatches}
use Rattle.km_base.specs.Limits.{usual_steps}
use Rattle.decimals.specs.Numbers.{number_of}
use Rattle.workbench.specs.declared.words.Command.{Command}
use Rattle.workbench.specs.declared.words.Command.TheVariants.{Tokens, Check, Plain}
use Rattle.workbench.specs.Words.{plain_within, sample_of}

-- the option `--steps`, which has one value
abbrev pub steps : Rule
steps = record (new_rule (codes "steps")) { long = Some (codes "steps") }

-- `plain`, which may have the option
abbrev pub plain : App
plain = with_rule (new_app (codes "plain")) steps

-- a number, which has to come
abbrev pub number : Rule
number = record (new_rule (codes "number")) { required = true }

-- `sample`, which has the number
abbrev pub sample : App
sample = with_rule (new_app (codes "sample")) number

-- the words begin with the first argument, one subcommand has to come, and there is no help
abbrev pub with_settings : App → App
with_settings a = record a {
  top = record a.top {
    no_binary_name = true;
    disable_help_flag = true;
    disable_help_subcommand = true;
    subcommand_required = true;
  };
}

-- the program: one subcommand of four
abbrev pub program : App
program = with_subcommand (with_subcommand (with_subcommand (with_subcommand (with_settings (new_app (codes "workbench")))
    (new_app (codes "tokens")).top) (new_app (codes "check")).top) plain.top) sample.top

-- what a parse of the words found: nothing where there is a fault, and else the subcommand that they are
abbrev pub IsRead : List Text → Option ArgMatches → Type 0
IsRead words found = MatchOption found (fault_of program words ≢ [])
    (λ matches. (fault_of program words ≡ []) × (subcommand_rows_of matches ≡ subcommand_of program words))

-- `plain` with the word behind `--steps`, if there is one
abbrev pub plain_by : Option Text → Option Command
plain_by None = Some (Plain usual_steps)
plain_by (Some number) = plain_within (number_of number)

-- `sample` with its word
abbrev pub sample_by : Option Text → Option Command
sample_by None = None
sample_by (Some number) = sample_of (number_of number)

-- the command that a subcommand's name and its words are
abbrev pub command_named : Text → List Row → Option Command
command_named name rows = if bytes_eq name (codes "tokens") then Some Tokens
    else (if bytes_eq name (codes "check") then Some Check
    else (if bytes_eq name (codes "plain") then plain_by (first_of (codes "steps") rows)
    else (if bytes_eq name (codes "sample") then sample_by (first_of (codes "number") rows) else None)))

abbrev pub command_by : Option (Text × List Row) → Option Command
command_by None = None
command_by (Some p) = command_named p.0 p.1
