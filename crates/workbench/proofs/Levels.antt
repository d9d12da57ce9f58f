-- What words that pass the first test are to one level of a parse.
use Rattle.std.proofs.Common.{◌≡◌, ◌∙◌, ◌&&◌, ◌||◌, Bool, false, true, not, refl, true≢false, sym, subst, ap₂, codes, List, [], ◌∷◌, None}
use Rattle.std.specs.List.{fold}
use Rattle.std.specs.Str.{bytes_eq}
use Rattle.std.proofs.lemmas.Slice.Eq.{bytes_eq-Decides}
use Rattle.clap.specs.Lexer.{long_of, short_of}
use Rattle.clap.specs.Walk.{Held, Text, Walk, finished, nothing_held, settled, walk_from, walked}
use Rattle.clap.specs.Simple.{Shape}
use Rattle.clap.specs.Kinds.{Kinds, or_else}
use Rattle.clap.specs.Faults.{check_fault, defaults_fault, settle_fault, turn_fault, walk_fault}
use Rattle.workbench.specs.Words.{begins_with_hyphen, is_other_option}

-- ---- faults

-- there is a fault
abbrev pub Fails : Kinds → Type 0
Fails [] = ⊥
Fails (k ∷ ks) = Unit {0}

pub first_fails : (a b : Kinds) → Fails a → Fails (or_else a b)
first_fails [] b h = absurd h
first_fails (k ∷ ks) b h = tt

joined : (a b c : Kinds) → or_else (or_else a b) c ≡ or_else a (or_else b c)
joined [] b c = refl
joined (k ∷ ks) b c = refl

-- ---- words

-- the word is no option to `clap`
pub record IsValue (word : Text) : Type 0 where
  pub end : bytes_eq word (45 ∷ 45 ∷ []) ≡ false
  pub long : long_of word ≡ None
  pub short : short_of word ≡ None

is_value : (word : Text) → begins_with_hyphen word ≡ false → IsValue word
is_value [] h = record { end = refl; long = refl; short = refl }
is_value (byte ∷ rest) h = record { end = rw h refl; long = rw h refl; short = rw h refl }

-- a word that passes the first test
pub data Passing (word : Text) : Type 0 where
  steps : word ≡ codes "--steps" → Passing word
  text : IsValue word → Passing word

pub passing : (word : Text) → is_other_option word ≡ false → Passing word
passing word h = go (begins_with_hyphen word) refl (bytes_eq word (codes "--steps")) refl h
  where
    go : (hyphen : Bool) → begins_with_hyphen word ≡ hyphen → (is_it : Bool) → bytes_eq word (codes "--steps") ≡ is_it
        → (hyphen && not is_it) ≡ false → Passing word
    go false e is_it e2 h = text (is_value word e)
    go true e true e2 h = steps ((bytes_eq-Decides word (codes "--steps")).0 e2)
    go true e false e2 h = absurd (true≢false h)

pub by_word : (P : Text → Type 0) (word : Text) → P (codes "--steps") → (IsValue word → P word) → Passing word → P word
by_word P word at_steps at_text (steps e) = subst P (sym e) at_steps
by_word P word at_steps at_text (text v) = at_text v

pub or_parts : (a b : Bool) → (a || b) ≡ false → (a ≡ false) × (b ≡ false)
or_parts false b h = (refl, h)
or_parts true b h = absurd (true≢false h)

-- ---- a level with no subcommand

abbrev pub start : Walk
start = walk_from nothing_held

-- what is wrong at its end
abbrev pub at_end : Shape → Held → Kinds
at_end s end = or_else (settle_fault s.rules s.args_override_self end)
    (or_else (defaults_fault (settled s.rules end).rows s.rules) (check_fault s (finished s.rules end) false))

-- what is wrong from here on
unfoldable pub from : Shape → Walk → List Text → Kinds
from s w words = or_else (walk_fault s [] w words) (at_end s (fold (walked s.rules []) w words).held)

from_next : (s : Shape) (w : Walk) (word : Text) (rest : List Text)
    → from s w (word ∷ rest) ≡ or_else (turn_fault s [] w word) (from s (walked s.rules [] w word) rest)
unfolding from walk_fault
from_next s w word rest = joined (turn_fault s [] w word) _ _

-- the word at hand fails
pub fails_here : (s : Shape) (w : Walk) (word : Text) (rest : List Text) → Fails (turn_fault s [] w word) → Fails (from s w (word ∷ rest))
fails_here s w word rest h = subst Fails (sym (from_next s w word rest)) (first_fails _ _ h)

-- the word at hand passes, and leads to another state
pub goes : (s : Shape) (w after : Walk) (word : Text) (rest : List Text) → turn_fault s [] w word ≡ [] → walked s.rules [] w word ≡ after
    → from s w (word ∷ rest) ≡ from s after rest
goes s w after word rest passes leads = from_next s w word rest ∙ ap₂ (λ k v. or_else k (from s v rest)) passes leads
