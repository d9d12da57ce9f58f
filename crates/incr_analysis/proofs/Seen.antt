-- Numbers that a stop told, one call after another.
use Rattle.std.proofs.Common.{◌≡◌, ℕ, ◌+◌, ◌-◌, List, ◌++◌, length, get_or, Option, Some, None, arith, sym, ap, subst, ◌∙◌, append_assoc, length-append}
use Rattle.std.specs.List.{Contains}
use Rattle.std.proofs.Math.Seq.{get_or-append_right}
use Rattle.incr_analysis.specs.Stops.{IsAmong, SeesMore, IsNewer}

behind : (xs ys : List ℕ) (n : ℕ) → Contains ys n → Contains (xs ++ ys) n
behind xs ys n c =
    let at : length xs + c.0 - length xs ≡ c.0 = omega arith in
    (length xs + c.0, omega (arith, c.1, length-append xs ys), get_or-append_right xs ys (length xs + c.0) n (omega arith) ∙ ap (λ k. get_or ys k n) at ∙ c.2)

among_behind : (xs ys : List ℕ) (answer : Option ℕ) → IsAmong ys answer → IsAmong (xs ++ ys) answer
among_behind xs ys None h = h
among_behind xs ys (Some n) h = behind xs ys n h

-- more was seen, and then more with an answer
pub sees_then : (before between now : List ℕ) (answer : Option ℕ) → (came : List ℕ) × (between ≡ before ++ came) → SeesMore between now answer → SeesMore before now answer
sees_then before between now answer first second =
    (first.0 ++ second.0, second.1 ∙ ap (λ l. l ++ second.0) first.1 ∙ append_assoc before first.0 second.0, among_behind first.0 second.0 answer second.2)

-- the same without an answer
pub sees_on : (before between now : List ℕ) (answer : Option ℕ) → (came : List ℕ) × (between ≡ before ++ came) → SeesMore between now answer → (came : List ℕ) × (now ≡ before ++ came)
sees_on before between now answer first second = (first.0 ++ second.0, second.1 ∙ ap (λ l. l ++ second.0) first.1 ∙ append_assoc before first.0 second.0)

pub sees_none : (before now : List ℕ) → (came : List ℕ) × (now ≡ before ++ came) → SeesMore before now None
sees_none before now h = (h.0, h.1, tt)

-- where no number is answered, that more was seen is all
pub sees_without : (before now : List ℕ) (told answer : Option ℕ) → SeesMore before now told → answer ≡ None → SeesMore before now answer
sees_without before now told answer seen e = (seen.0, seen.1, subst (IsAmong seen.0) (sym e) tt)

pub newer_without : (version : ℕ) (answer : Option ℕ) → answer ≡ None → IsNewer version answer
newer_without version answer e = subst (IsNewer version) (sym e) tt
