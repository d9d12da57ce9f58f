-- The words that `clap` takes are the listed ones.
use Rattle.std.proofs.Common.{◌≡◌, ◌≢◌, ◌∙◌, Bool, false, true, refl, sym, subst, ap, ap₂, codes, List, [], ◌∷◌, Some, None, is_some}
use Rattle.std.specs.List.{fold}
use Rattle.std.specs.Str.{bytes_eq}
use Rattle.std.proofs.lemmas.Slice.Eq.{bytes_eq-Decides}
use Rattle.clap.specs.Walk.{Text, Walk, finished, idle, nothing_held, option, settled, walk, walked, with_values}
use Rattle.clap.specs.Simple.{App, Shape, built, built_leaf, entered, inherited, marked_built, names_of, new_shape, on_top, subcommand_of, with_leaf_noted}
use Rattle.clap.specs.Kinds.{Kinds, or_else}
use Rattle.clap.specs.Values.{reading_of}
use Rattle.clap.specs.Faults.{check_fault, defaults_fault, entered_fault, fault_of, settle_fault, turn_fault, walk_fault}
use Rattle.clap.specs.declared.parser.matches.ValueSource.TheVariants.{CommandLine}
use Rattle.clap.specs.declared.builder.value_parser.ValueParser.TheVariants.{String}
use Rattle.clap.proofs.FaultLemmas.{stopped_fault}
use Rattle.clap.proofs.OnLiterals.{clap_on_literals}
use Rattle.clap.proofs.WalkLemmas.{walk_stopped}
use Rattle.decimals.specs.Numbers.{number_of}
use Rattle.workbench.specs.Program.{command_by, plain, program, sample}
use Rattle.workbench.specs.Words.{command_of, has_other_option, plain_within, sample_of}
use Rattle.workbench.proofs.Levels.{Fails, IsValue, Passing, by_word, fails_here, first_fails, from, goes, or_parts, passing, start}
use Rattle.workbench.proofs.Listed.{IsOther, check_is_none, other_is_none, plain_is_none, sample_more_is_none, sample_steps_is_none, tokens_is_none, two_steps_is_none}

-- ---- the program's own level

abbrev whole : App
whole = built program

-- a subcommand, built below the program
abbrev below : Shape → Shape
below s = built_leaf (inherited (on_top with_leaf_noted (on_top marked_built program)).top s)

abbrev tokens_leaf : Shape
tokens_leaf = below (new_shape (codes "tokens"))

abbrev check_leaf : Shape
check_leaf = below (new_shape (codes "check"))

abbrev plain_leaf : Shape
plain_leaf = below plain.top

abbrev sample_leaf : Shape
sample_leaf = below sample.top

-- the walk that met a subcommand, with the words behind it
abbrev stopped : Text → List Text → Walk
stopped name rest = record start { stopped = Some (name, rest) }

-- what is wrong, by where the walk came to and what it met
abbrev at_top : Walk → Kinds → Kinds
at_top w walking = or_else walking (or_else (entered_fault whole w.stopped)
    (or_else (settle_fault whole.top.rules whole.top.args_override_self w.held)
    (or_else (defaults_fault (settled whole.top.rules w.held).rows whole.top.rules)
    (check_fault whole.top (finished whole.top.rules w.held) (is_some (entered whole w.stopped))))))

-- the word names a subcommand
record Enters (name : Text) : Type 0 where
  passes : turn_fault whole.top (names_of whole) start name ≡ []
  stops : walked whole.top.rules (names_of whole) start name ≡ stopped name []

walk_at : (name : Text) (rest : List Text) → Enters name
    → walk whole.top.rules (names_of whole) nothing_held (name ∷ rest) ≡ stopped name rest
walk_at name rest e = ap (λ w. fold (walked whole.top.rules (names_of whole)) w rest) e.stops
    ∙ sym (walk_stopped whole.top.rules (names_of whole) start name [] rest)

walk_passes : (name : Text) (rest : List Text) → Enters name → walk_fault whole.top (names_of whole) start (name ∷ rest) ≡ []
unfolding walk_fault
walk_passes name rest e = ap₂ (λ k w. or_else k (walk_fault whole.top (names_of whole) w rest)) e.passes e.stops
    ∙ stopped_fault whole.top (names_of whole) start (name, []) rest

fault_at : (name : Text) (rest : List Text) → Enters name → fault_of program (name ∷ rest) ≡ at_top (stopped name rest) []
fault_at name rest e = ap₂ at_top (walk_at name rest e) (walk_passes name rest e)

found_at : (name : Text) (rest : List Text) → Enters name → subcommand_of program (name ∷ rest) ≡ entered whole (Some (name, rest))
found_at name rest e = ap (λ (w : Walk). entered whole w.stopped) (walk_at name rest e)

fails_at : (name : Text) (rest : List Text) → Fails (turn_fault whole.top (names_of whole) start name) → Fails (fault_of program (name ∷ rest))
unfolding walk_fault
fails_at name rest h = first_fails _ _ (first_fails _ _ h)

other_fails : (word : Text) → IsOther word → Passing word → Fails (turn_fault whole.top (names_of whole) start word)
unfolding clap_on_literals
other_fails word o = by_word (λ w. Fails (turn_fault whole.top (names_of whole) start w)) word tt
    (λ v. rw o.tokens (rw o.check (rw o.plain (rw o.sample (rw v.end (rw v.long (rw v.short tt)))))))

-- ---- readings

-- what `clap` and the definition make of the words: both take them, as one command, or neither does
data Reading (words : List Text) : Type 0 where
  taken : fault_of program words ≡ [] → command_by (subcommand_of program words) ≡ command_of words → Reading words
  refused : Fails (fault_of program words) → command_of words ≡ None → Reading words

-- ---- `tokens` and `check`

tokens_enters : Enters (codes "tokens")
unfolding clap_on_literals
tokens_enters = record { passes = refl; stops = refl }

check_enters : Enters (codes "check")
unfolding clap_on_literals
check_enters = record { passes = refl; stops = refl }

tokens_fails : (rest : List Text) → Fails (from tokens_leaf start rest) → Fails (fault_of program (codes "tokens" ∷ rest))
unfolding clap_on_literals from
tokens_fails rest h = subst Fails (sym (fault_at (codes "tokens") rest tokens_enters)) (first_fails _ _ h)

check_fails : (rest : List Text) → Fails (from check_leaf start rest) → Fails (fault_of program (codes "check" ∷ rest))
unfolding clap_on_literals from
check_fails rest h = subst Fails (sym (fault_at (codes "check") rest check_enters)) (first_fails _ _ h)

tokens_alone : (word : Text) → Passing word → Fails (turn_fault tokens_leaf [] start word)
unfolding clap_on_literals
tokens_alone word = by_word (λ w. Fails (turn_fault tokens_leaf [] start w)) word tt (λ v. rw v.end (rw v.long (rw v.short tt)))

check_alone : (word : Text) → Passing word → Fails (turn_fault check_leaf [] start word)
unfolding clap_on_literals
check_alone word = by_word (λ w. Fails (turn_fault check_leaf [] start w)) word tt (λ v. rw v.end (rw v.long (rw v.short tt)))

tokens_reading : (rest : List Text) → has_other_option rest ≡ false → Reading (codes "tokens" ∷ rest)
unfolding clap_on_literals
tokens_reading [] h = taken refl refl
tokens_reading (word ∷ rest) h =
    let fails = fails_here tokens_leaf start word rest (tokens_alone word (passing word (or_parts _ _ h).0)) in
    refused (tokens_fails (word ∷ rest) fails) (tokens_is_none word rest)

check_reading : (rest : List Text) → has_other_option rest ≡ false → Reading (codes "check" ∷ rest)
unfolding clap_on_literals
check_reading [] h = taken refl refl
check_reading (word ∷ rest) h =
    let fails = fails_here check_leaf start word rest (check_alone word (passing word (or_parts _ _ h).0)) in
    refused (check_fails (word ∷ rest) fails) (check_is_none word rest)

-- ---- `plain`

plain_enters : Enters (codes "plain")
unfolding clap_on_literals
plain_enters = record { passes = refl; stops = refl }

plain_below : (rest : List Text) → fault_of program (codes "plain" ∷ rest) ≡ or_else (from plain_leaf start rest) []
unfolding clap_on_literals from
plain_below rest = fault_at (codes "plain") rest plain_enters

plain_fails : (rest : List Text) → Fails (from plain_leaf start rest) → Fails (fault_of program (codes "plain" ∷ rest))
plain_fails rest h = subst Fails (sym (plain_below rest)) (first_fails _ _ h)

-- `--steps` was met, and its value is to come
abbrev wanting : Walk
wanting = record start {
  held = record nothing_held { pending = Some (codes "steps", []) };
  waiting = option (codes "steps");
}

-- its value was met
abbrev given : Text → Walk
given number = record start { held = record nothing_held { pending = Some (codes "steps", number ∷ []) } }

-- `--steps` was met once more, and its second value is to come
abbrev wanting_again : Text → Walk
wanting_again number = record start {
  held = record {
    rows = with_values (codes "steps") (reading_of String) CommandLine (number ∷ []) [];
    pending = Some (codes "steps", []);
    skip = 0;
  };
  waiting = option (codes "steps");
}

-- its second value was met
abbrev given_again : Text → Text → Walk
given_again number second = record (wanting_again number) {
  held = record (wanting_again number).held { pending = Some (codes "steps", second ∷ []) };
  waiting = idle;
}

steps_go : (rest : List Text) → from plain_leaf start (codes "--steps" ∷ rest) ≡ from plain_leaf wanting rest
unfolding clap_on_literals
steps_go rest = goes plain_leaf start wanting (codes "--steps") rest refl refl

number_goes : (number : Text) (rest : List Text) → IsValue number
    → from plain_leaf wanting (number ∷ rest) ≡ from plain_leaf (given number) rest
unfolding clap_on_literals
number_goes number rest v = goes plain_leaf wanting (given number) number rest
    (rw v.end (rw v.long (rw v.short refl))) (rw v.end (rw v.long (rw v.short refl)))

again_goes : (number : Text) (rest : List Text)
    → from plain_leaf (given number) (codes "--steps" ∷ rest) ≡ from plain_leaf (wanting_again number) rest
unfolding clap_on_literals
again_goes number rest = goes plain_leaf (given number) (wanting_again number) (codes "--steps") rest refl refl

second_goes : (number second : Text) (rest : List Text) → IsValue second
    → from plain_leaf (wanting_again number) (second ∷ rest) ≡ from plain_leaf (given_again number second) rest
unfolding clap_on_literals
second_goes number second rest v = goes plain_leaf (wanting_again number) (given_again number second) second rest
    (rw v.end (rw v.long (rw v.short refl))) (rw v.end (rw v.long (rw v.short refl)))

-- a second `--steps` fails once its value is known, whatever follows
given_again_fails : (number second : Text) (rest : List Text) → has_other_option rest ≡ false
    → Fails (from plain_leaf (given_again number second) rest)
unfolding clap_on_literals from
given_again_fails number second [] h = tt
given_again_fails number second (word ∷ rest) h = fails_here plain_leaf (given_again number second) word rest
    (by_word (λ w. Fails (turn_fault plain_leaf [] (given_again number second) w)) word tt (λ v. rw v.end (rw v.long (rw v.short tt)))
    (passing word (or_parts _ _ h).0))

no_second : (number : Text) → Fails (from plain_leaf (wanting_again number) [])
unfolding clap_on_literals from
no_second number = tt

steps_for_second : (number : Text) (rest : List Text) → Fails (from plain_leaf (wanting_again number) (codes "--steps" ∷ rest))
unfolding clap_on_literals
steps_for_second number rest = fails_here plain_leaf (wanting_again number) (codes "--steps") rest tt

wanting_again_fails : (number : Text) (rest : List Text) → has_other_option rest ≡ false → Fails (from plain_leaf (wanting_again number) rest)
wanting_again_fails number [] h = no_second number
wanting_again_fails number (word ∷ rest) h =
    by_word (λ w. Fails (from plain_leaf (wanting_again number) (w ∷ rest))) word (steps_for_second number rest)
    (λ v. subst Fails (sym (second_goes number word rest v)) (given_again_fails number word rest (or_parts _ _ h).1))
    (passing word (or_parts _ _ h).0)

stray_fails : (number word : Text) (rest : List Text) → IsValue word → Fails (from plain_leaf (given number) (word ∷ rest))
unfolding clap_on_literals
stray_fails number word rest v = fails_here plain_leaf (given number) word rest (rw v.end (rw v.long (rw v.short tt)))

-- behind the number nothing may come
more_fails : (number word : Text) (rest : List Text) → has_other_option (word ∷ rest) ≡ false → Fails (from plain_leaf (given number) (word ∷ rest))
more_fails number word rest h = by_word (λ w. Fails (from plain_leaf (given number) (w ∷ rest))) word
    (subst Fails (sym (again_goes number rest)) (wanting_again_fails number rest (or_parts _ _ h).1))
    (stray_fails number word rest)
    (passing word (or_parts _ _ h).0)

two_steps_fail : (rest : List Text) → Fails (from plain_leaf wanting (codes "--steps" ∷ rest))
unfolding clap_on_literals
two_steps_fail rest = fails_here plain_leaf wanting (codes "--steps") rest tt

bare_word_fails : (word : Text) (rest : List Text) → IsValue word → Fails (from plain_leaf start (word ∷ rest))
unfolding clap_on_literals
bare_word_fails word rest v = fails_here plain_leaf start word rest (rw v.end (rw v.long (rw v.short tt)))

-- `plain --steps N`
number_ends : (number : Text) → from plain_leaf (given number) [] ≡ []
unfolding clap_on_literals from
number_ends number = refl

number_fault : (number : Text) → IsValue number → fault_of program (codes "plain" ∷ codes "--steps" ∷ number ∷ []) ≡ []
number_fault number v = plain_below (codes "--steps" ∷ number ∷ [])
    ∙ ap (λ k. or_else k []) (steps_go (number ∷ []) ∙ number_goes number [] v ∙ number_ends number)

number_found : (number : Text) → IsValue number
    → command_by (subcommand_of program (codes "plain" ∷ codes "--steps" ∷ number ∷ [])) ≡ plain_within (number_of number)
unfolding clap_on_literals
number_found number v = ap command_by (found_at (codes "plain") (codes "--steps" ∷ number ∷ []) plain_enters)
    ∙ rw v.end (rw v.long (rw v.short refl))

after_number : (number : Text) (rest : List Text) → IsValue number → has_other_option rest ≡ false
    → Reading (codes "plain" ∷ codes "--steps" ∷ number ∷ rest)
after_number number [] v h = taken (number_fault number v) (number_found number v)
after_number number (word ∷ rest) v h =
    let leads = steps_go (number ∷ word ∷ rest) ∙ number_goes number (word ∷ rest) v in
    refused (plain_fails _ (subst Fails (sym leads) (more_fails number word rest h))) refl

after_steps : (rest : List Text) → has_other_option rest ≡ false → Reading (codes "plain" ∷ codes "--steps" ∷ rest)
unfolding clap_on_literals
after_steps [] h = refused tt refl
after_steps (number ∷ rest) h = by_word (λ w. Reading (codes "plain" ∷ codes "--steps" ∷ w ∷ rest)) number
    (refused (plain_fails _ (subst Fails (sym (steps_go _)) (two_steps_fail rest))) (two_steps_is_none rest))
    (λ v. after_number number rest v (or_parts _ _ h).1)
    (passing number (or_parts _ _ h).0)

plain_reading : (rest : List Text) → has_other_option rest ≡ false → Reading (codes "plain" ∷ rest)
unfolding clap_on_literals
plain_reading [] h = taken refl refl
plain_reading (word ∷ rest) h = by_word (λ w. Reading (codes "plain" ∷ w ∷ rest)) word (after_steps rest (or_parts _ _ h).1)
    (λ v. refused (plain_fails (word ∷ rest) (bare_word_fails word rest v)) (plain_is_none word rest v))
    (passing word (or_parts _ _ h).0)

-- ---- `sample`

sample_enters : Enters (codes "sample")
unfolding clap_on_literals
sample_enters = record { passes = refl; stops = refl }

sample_below : (rest : List Text) → fault_of program (codes "sample" ∷ rest) ≡ or_else (from sample_leaf start rest) []
unfolding clap_on_literals from
sample_below rest = fault_at (codes "sample") rest sample_enters

sample_fails : (rest : List Text) → Fails (from sample_leaf start rest) → Fails (fault_of program (codes "sample" ∷ rest))
sample_fails rest h = subst Fails (sym (sample_below rest)) (first_fails _ _ h)

-- the number was met
abbrev numbered : Text → Walk
numbered number = record start { held = record nothing_held { pending = Some (codes "number", number ∷ []) }; position = 2 }

sample_number_goes : (number : Text) (rest : List Text) → IsValue number
    → from sample_leaf start (number ∷ rest) ≡ from sample_leaf (numbered number) rest
unfolding clap_on_literals
sample_number_goes number rest v = goes sample_leaf start (numbered number) number rest
    (rw v.end (rw v.long (rw v.short refl))) (rw v.end (rw v.long (rw v.short refl)))

-- behind the number nothing may come
numbered_fails : (number word : Text) (rest : List Text) → Passing word → Fails (from sample_leaf (numbered number) (word ∷ rest))
unfolding clap_on_literals
numbered_fails number word rest p = fails_here sample_leaf (numbered number) word rest
    (by_word (λ w. Fails (turn_fault sample_leaf [] (numbered number) w)) word tt (λ v. rw v.end (rw v.long (rw v.short tt))) p)

sample_steps_fail : (rest : List Text) → Fails (from sample_leaf start (codes "--steps" ∷ rest))
unfolding clap_on_literals
sample_steps_fail rest = fails_here sample_leaf start (codes "--steps") rest tt

numbered_ends : (number : Text) → from sample_leaf (numbered number) [] ≡ []
unfolding clap_on_literals from
numbered_ends number = refl

sample_found : (number : Text) → IsValue number
    → command_by (subcommand_of program (codes "sample" ∷ number ∷ [])) ≡ sample_of (number_of number)
unfolding clap_on_literals
sample_found number v = ap command_by (found_at (codes "sample") (number ∷ []) sample_enters) ∙ rw v.end (rw v.long (rw v.short refl))

after_sample : (number : Text) (rest : List Text) → IsValue number → has_other_option rest ≡ false → Reading (codes "sample" ∷ number ∷ rest)
after_sample number [] v h = taken
    (sample_below (number ∷ []) ∙ ap (λ k. or_else k []) (sample_number_goes number [] v ∙ numbered_ends number))
    (sample_found number v)
after_sample number (word ∷ rest) v h = refused
    (sample_fails _ (subst Fails (sym (sample_number_goes number (word ∷ rest) v))
    (numbered_fails number word rest (passing word (or_parts _ _ h).0))))
    (sample_more_is_none number word rest)

sample_reading : (rest : List Text) → has_other_option rest ≡ false → Reading (codes "sample" ∷ rest)
unfolding clap_on_literals
sample_reading [] h = refused tt refl
sample_reading (number ∷ rest) h = by_word (λ w. Reading (codes "sample" ∷ w ∷ rest)) number
    (refused (sample_fails _ (sample_steps_fail rest)) (sample_steps_is_none rest))
    (λ v. after_sample number rest v (or_parts _ _ h).1)
    (passing number (or_parts _ _ h).0)

-- ---- all words

reading : (words : List Text) → has_other_option words ≡ false → Reading words
unfolding clap_on_literals
reading [] h = refused tt refl
reading (word ∷ rest) h = go (bytes_eq (codes "tokens") word) refl (bytes_eq (codes "check") word) refl
    (bytes_eq (codes "plain") word) refl (bytes_eq (codes "sample") word) refl
  where
    named : (name : Text) → bytes_eq name word ≡ true → Reading (name ∷ rest) → Reading (word ∷ rest)
    named name e r = subst (λ w. Reading (w ∷ rest)) ((bytes_eq-Decides name word).0 e) r

    go : (a : Bool) → bytes_eq (codes "tokens") word ≡ a → (b : Bool) → bytes_eq (codes "check") word ≡ b
        → (c : Bool) → bytes_eq (codes "plain") word ≡ c → (d : Bool) → bytes_eq (codes "sample") word ≡ d → Reading (word ∷ rest)
    go true e b f c g d k = named (codes "tokens") e (tokens_reading rest (or_parts _ _ h).1)
    go false e true f c g d k = named (codes "check") f (check_reading rest (or_parts _ _ h).1)
    go false e false f true g d k = named (codes "plain") g (plain_reading rest (or_parts _ _ h).1)
    go false e false f false g true k = named (codes "sample") k (sample_reading rest (or_parts _ _ h).1)
    go false e false f false g false k =
        let o : IsOther word = record { tokens = e; check = f; plain = g; sample = k } in
        refused (fails_at word rest (other_fails word o (passing word (or_parts _ _ h).0))) (other_is_none word rest o)

-- what `clap` takes is the listed command, and what it refuses is none
pub taken_is : (words : List Text) → has_other_option words ≡ false → fault_of program words ≡ []
    → command_by (subcommand_of program words) ≡ command_of words
taken_is words h none = elim (reading words h) [ taken f e ↦ e | refused f e ↦ absurd (subst Fails none f) ]

pub refused_is : (words : List Text) → has_other_option words ≡ false → fault_of program words ≢ [] → command_of words ≡ None
refused_is words h some = elim (reading words h) [ taken f e ↦ absurd (some f) | refused f e ↦ e ]
