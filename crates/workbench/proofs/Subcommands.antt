-- That the command is read off a subcommand's name and matches.
use Rattle.std.proofs.Common.{◌≡◌, ◌∙◌, List, refl, sym, ap, codes, Option, Some, None, is_some, option_map, true≢false}
use Rattle.std.specs.Option.{unwrap_or}
use Rattle.clap.specs.Walk.{Row, Text, rows_of}
use Rattle.clap.specs.Matches.{first_value, found_of, subcommand_name_of}
use Rattle.clap.specs.Simple.{subcommand_rows_of}
use Rattle.clap.specs.declared.parser.matches.ArgMatches.{ArgMatches}
use Rattle.clap.specs.declared.parser.matches.ArgMatches.TheViews.{out-ArgMatches, out-SubCommand}
use Rattle.std.specs.Box.{box_value}
use Rattle.clap.proofs.WalkLemmas.{first_value-rows}
use Rattle.workbench.specs.Program.{command_by, plain_by, sample_by}

-- an option with these two parts is their pair
both_parts : {A B : Type 0} (o : Option (A × B)) (a : A) (b : B) → Some a ≡ option_map (λ p. p.0) o → Some b ≡ option_map (λ p. p.1) o → o ≡ Some (a, b)
both_parts None a b e f = absurd (true≢false (ap is_some e))
both_parts (Some p) a b e f = λ i. Some (ap (λ o. unwrap_or o a) (sym e) i, ap (λ o. unwrap_or o b) (sym f) i)

parts_of : {A B C : Type 0} (f : A → B) (g : B → C) (o : Option A) → option_map (λ x. g (f x)) o ≡ option_map g (option_map f o)
parts_of f g None = refl
parts_of f g (Some x) = refl

-- the subcommand that was met, by its name and its words
pub met_is : (m arguments : ArgMatches) (name : Text) → Some name ≡ subcommand_name_of m
    → Some (rows_of (found_of arguments)) ≡ option_map (λ p. p.1) (subcommand_rows_of m)
    → subcommand_rows_of m ≡ Some (name, rows_of (found_of arguments))
met_is m arguments name named rows =
    let parts = parts_of (λ b. ((out-SubCommand (box_value b)).name.now, rows_of (found_of (out-SubCommand (box_value b)).matches)))
    (λ (p : Text × List Row). p.0) (out-ArgMatches m).subcommand in
    both_parts (subcommand_rows_of m) name (rows_of (found_of arguments)) (named ∙ parts) rows

pub plain_is : (m arguments : ArgMatches) (name : Text) (number : Option Text) → subcommand_rows_of m ≡ Some (name, rows_of (found_of arguments))
    → name ≡ codes "plain" → number ≡ first_value (found_of arguments) (codes "steps") → plain_by number ≡ command_by (subcommand_rows_of m)
plain_is m arguments name number met is first = ap plain_by (first ∙ first_value-rows (found_of arguments) (codes "steps"))
    ∙ ap (λ n. command_by (Some (n, rows_of (found_of arguments)))) (sym is) ∙ ap command_by (sym met)

pub sample_is : (m arguments : ArgMatches) (name : Text) (number : Option Text) → subcommand_rows_of m ≡ Some (name, rows_of (found_of arguments))
    → name ≡ codes "sample" → number ≡ first_value (found_of arguments) (codes "number") → sample_by number ≡ command_by (subcommand_rows_of m)
sample_is m arguments name number met is first = ap sample_by (first ∙ first_value-rows (found_of arguments) (codes "number"))
    ∙ ap (λ n. command_by (Some (n, rows_of (found_of arguments)))) (sym is) ∙ ap command_by (sym met)
