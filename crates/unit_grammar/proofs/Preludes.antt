-- Preludes, one form more.
use Rattle.std.proofs.Common.{zero, suc, ◌≡◌, ℕ, ◌+◌, ◌<◌, Bool, true, false, List, [], ◌∷◌, ◌++◌, length, take, get_or, map, sym, ◌∙◌, subst, refl, arith, ap}
use Rattle.std.proofs.lemmas.List.{take_more, map-append}
use Rattle.kumir_tree.specs.Piece as form
use Rattle.kumir_tree.specs.Piece.{Piece}
use Rattle.kumir_tree.specs.declared.fault_codes.TheConstants.{MISPLACED}
use Rattle.unit_grammar.specs.Grammar.{Placed, IsPrelude, nothing, uses}
use Rattle.unit_grammar.specs.Structure.{HasOther, other}
use Rattle.unit_grammar.specs.Progress.{fault_at}
use Rattle.unit_grammar.specs.Reading.{is_use, placed_of}
use Rattle.unit_grammar.specs.declared.placed.PlacedForm.{PlacedForm}

pub use_more : (fs : List Placed) (line : ℕ) (f : Piece) → IsPrelude fs → is_use f ≡ true → IsPrelude (fs ++ (line, f) ∷ [])
use_more [] line (form.Uses x) nothing e = uses line x nothing
use_more [] line f nothing e = absurd (let none : ⊥ = cc in none)
use_more (g ∷ fs) line f (uses m x a) e = uses m x (use_more fs line f a e)

pub last_use : (fs : List Placed) (line : ℕ) (f : Piece) → IsPrelude (fs ++ (line, f) ∷ []) → is_use f ≡ true
last_use [] line f (uses m x a) = refl
last_use (g ∷ fs) line f (uses m x a) = last_use fs line f a

parted : (xs : List PlacedForm) (i : ℕ) (d : PlacedForm) → i < length xs → (behind : List Placed) × (map placed_of xs ≡ map placed_of (take i xs) ++ placed_of (get_or xs i d) ∷ behind)
parted [] i d h = absurd (omega arith)
parted (x ∷ xs) zero d h = (map placed_of xs, refl)
parted (x ∷ xs) (suc i) d h = let r = parted xs i d (omega arith) in (r.0, ap (λ l. placed_of x ∷ l) r.1)

pub prelude_more : (xs : List PlacedForm) (i : ℕ) (d : PlacedForm) → i < length xs → IsPrelude (map placed_of (take i xs)) → is_use (placed_of (get_or xs i d)).1 ≡ true → IsPrelude (map placed_of (take (i + 1) xs))
prelude_more xs i d h a e =
    subst IsPrelude (sym (ap (map placed_of) (take_more xs i d h) ∙ map-append placed_of (take i xs) (get_or xs i d ∷ []))) (use_more (map placed_of (take i xs)) (get_or xs i d).line (placed_of (get_or xs i d)).1 a e)

pub other_here : (xs : List PlacedForm) (i : ℕ) (d : PlacedForm) → i < length xs → IsPrelude (map placed_of (take i xs)) → is_use (placed_of (get_or xs i d)).1 ≡ false → HasOther (map placed_of xs) (fault_at (get_or xs i d).line MISPLACED)
other_here xs i d h a e =
    let r = parted xs i d h in
    subst (λ l. HasOther l (fault_at (get_or xs i d).line MISPLACED)) (sym r.1)
    (other (map placed_of (take i xs)) r.0 (get_or xs i d).line (placed_of (get_or xs i d)).1 a (λ p. let both : true ≡ false = sym (last_use (map placed_of (take i xs)) (get_or xs i d).line (placed_of (get_or xs i d)).1 p) ∙ e in absurd (let none : ⊥ = cc in none)))

-- ---- by a test of the form

pub is_so : (xs : List PlacedForm) (i : ℕ) (d : PlacedForm) (r b : Bool) → d ≡ get_or xs i d → r ≡ is_use (placed_of d).1 → r ≡ b → is_use (placed_of (get_or xs i d)).1 ≡ b
is_so xs i d r b is e t = ap (λ (x : PlacedForm). is_use (placed_of x).1) (sym is) ∙ (sym e ∙ t)

pub other_at : (xs : List PlacedForm) (i : ℕ) (d : PlacedForm) → i < length xs → d ≡ get_or xs i d → IsPrelude (map placed_of (take i xs)) → is_use (placed_of (get_or xs i d)).1 ≡ false → HasOther (map placed_of xs) (fault_at d.line MISPLACED)
other_at xs i d h is a e = subst (λ (x : PlacedForm). HasOther (map placed_of xs) (fault_at x.line MISPLACED)) (sym is) (other_here xs i d h a e)

pub prelude_none : (xs : List PlacedForm) → IsPrelude (map placed_of (take 0 xs))
prelude_none [] = nothing
prelude_none (x ∷ xs) = nothing
