use Rattle.std.proofs.Common.{◌≡◌, ◌≢◌, ℕ, ◌<◌, Bool, true, false, List, length, MatchBool, Contains, All, rules, tests}
use Rattle.std.specs.List.{HoldsAt, AllWithin}
use Rattle.std.specs.Str.{chars}
use Rattle.std.proofs.lemmas.Bool.{false≢true}
use Rattle.std.proofs.lemmas.Iterator.{cases_from_any, YieldsList-from_chars}
use Rattle.std.proofs.lemmas.List.Elements.{Contains-from_at, All-from_all_within}
use Rattle.kumir_tree.proofs.line.has_line_feed.Goals as goal

abbrev Found : Bool → List ℕ → Type 0
Found r cs = MatchBool r ((k : ℕ) × (k < length cs) × HoldsAt (λ c. c ≡ 10) cs k) (AllWithin (λ c. c ≢ 10) cs 0 (length cs))

found_feed : (r : Bool) (cs : List ℕ) → Found r cs → r ≡ true → Contains cs 10
found_feed true cs found _ = Contains-from_at cs 10 found
found_feed false cs _ same = absurd (false≢true same)

found_none : (r : Bool) (cs : List ℕ) → Found r cs → r ≡ false → All (λ c. c ≢ 10) cs
found_none true cs _ same = absurd (let none : ⊥ = cc in none)
found_none false cs found _ = All-from_all_within (λ c. c ≢ 10) cs found

pub returns-clause-yes : goal.returns-clause-yes
returns-clause-yes c =
    let found = cases_from_any _ _ _ (λ c. c ≡ 10) (λ c. c ≢ 10) c.any.ensures.ran (YieldsList-from_chars c.args.text.now c.utf8.text cc) (λ x q k. search (rules, tests)) (λ x q k. search (rules, tests)) in
    found_feed c.any.result (chars c.args.text.now) found

pub returns-clause-none : goal.returns-clause-none
returns-clause-none c =
    let found = cases_from_any _ _ _ (λ c. c ≡ 10) (λ c. c ≢ 10) c.any.ensures.ran (YieldsList-from_chars c.args.text.now c.utf8.text cc) (λ x q k. search (rules, tests)) (λ x q k. search (rules, tests)) in
    found_none c.any.result (chars c.args.text.now) found
