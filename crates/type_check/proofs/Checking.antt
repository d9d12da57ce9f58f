-- The pieces that were checked one after another are all pieces.
use Rattle.std.proofs.Common.{◌≡◌, ℕ, Bool, true, false, cond, ◌&&◌, ◌||◌, not, List, [], ◌∷◌, ◌++◌, fold, Option, refl, sym, ap, ◌∙◌, append_assoc, append-nil}
use Rattle.std.proofs.lemmas.List.Sums.{fold-append}
use Rattle.kumir_tree.specs.declared.kind.Kind.{Kind}
use Rattle.kumir_tree.specs.Unit.{Algorithm}
use Rattle.kumir_tree.specs.Part.{Head}
use Rattle.kumir_names.specs.Callees.{Callee}
use Rattle.type_rules.specs.Counted.{fault_on}
use Rattle.type_check.specs.declared.parts.Part as rust
use Rattle.type_check.specs.declared.parts.Part.TheVariants as r
use Rattle.type_check.specs.declared.found.Found.{Found}
use Rattle.kumir_names.specs.Variables.{Names}
use Rattle.type_check.specs.Parts.{Pieces, pieces, used_by}
use Rattle.type_check.specs.Checked.{is_local, at_piece, behind, noted, not_local, asked_from, asked, faults_from, unit_faults, part_fault}
use Rattle.type_check.specs.Seen.{part_of, with_piece, nothing_found}

-- ---- tests that go on

pub any_more : (a b c : Bool) → ((a || b) || c) ≡ (a || (b || c))
any_more true b c = refl
any_more false b c = refl

pub all_more : (a b c : Bool) → ((a && b) && c) ≡ (a && (b && c))
all_more true b c = refl
all_more false b c = refl

-- a piece that is no header
pub at_other : (names : Names) (p : rust.Part) → at_piece names (part_of p) ≡ names
at_other names (r.Condition e) = refl
at_other names (r.Repeating e) = refl
at_other names (r.Counting x from to step) = refl
at_other names (r.Declaring d) = refl
at_other names (r.Assigning p e) = refl
at_other names (r.Calling f es) = refl
at_other names (r.Reading ps) = refl
at_other names (r.Printing xs) = refl

-- ---- names that are noted one after another

pub one_noted : (names : Names) (x : List ℕ) (xs a b : List (List ℕ)) → b ≡ fold noted a (not_local names (x ∷ [])) → fold noted b (not_local names xs) ≡ fold noted a (not_local names (x ∷ xs))
one_noted names x xs a b e = ap (λ l. fold noted l (not_local names xs)) e ∙ by (not (is_local names x))
  where
    by : (keep : Bool) → fold noted (fold noted a (cond keep (x ∷ []) [])) (not_local names xs) ≡ fold noted a (cond keep (x ∷ not_local names xs) (not_local names xs))
    by true = refl
    by false = refl

-- ---- pieces one after another

module _ {F P : Type 0} (f : F → P → F) where
  pub two_folds : (a b c : F) (xs ys : List P) → b ≡ fold f a xs → c ≡ fold f b ys → c ≡ fold f a (xs ++ ys)
  two_folds a b c xs ys e g = g ∙ ap (λ s. fold f s ys) e ∙ sym (fold-append f a xs ys)

  pub one_last : (a b c : F) (xs : List P) (p : P) → b ≡ fold f a xs → c ≡ f b p → c ≡ fold f a (xs ++ (p ∷ []))
  one_last a b c xs p e g = two_folds a b c xs (p ∷ []) e g

  pub four_folds : (a b c d e : F) (p : P) (xs ys zs : List P) → b ≡ f a p → c ≡ fold f b xs → d ≡ fold f c ys → e ≡ fold f d zs → e ≡ fold f a (p ∷ (xs ++ (ys ++ zs)))
  four_folds a b c d e p xs ys zs g h i j = two_folds b c e xs (ys ++ zs) h (two_folds c d e ys zs i j) ∙ ap (λ s. fold f s (xs ++ (ys ++ zs))) g

-- ---- what was found in all pieces

module _ (find : List ℕ → Option (Callee Head)) (gives : Option Kind) where
  faults_of : (f : Found) (ps : Pieces) → (fold (with_piece find gives) f ps).faults ≡ f.faults ++ faults_from find gives f.locals ps
  unfolding with_piece
  faults_of f [] = sym (append-nil f.faults)
  faults_of f (p ∷ ps) = faults_of (with_piece find gives f p) ps ∙ append_assoc f.faults (fault_on p.0 (part_fault find gives f.locals p.1)) (faults_from find gives (behind f.locals p.1) ps)

  asked_of : (f : Found) (ps : Pieces) → (fold (with_piece find gives) f ps).asked ≡ fold noted f.asked (asked_from f.locals ps)
  unfolding with_piece
  asked_of f [] = refl
  asked_of f (p ∷ ps) = asked_of (with_piece find gives f p) ps ∙ sym (fold-append noted f.asked (not_local (at_piece f.locals p.1) (used_by p.1)) (asked_from (behind f.locals p.1) ps))

  pub all_faults : (g : Found) (a : Algorithm) → a.head.gives ≡ gives → g ≡ fold (with_piece find gives) nothing_found (pieces a) → g.faults ≡ unit_faults find a
  all_faults g a kind e = ap (λ h. h.faults) e ∙ faults_of nothing_found (pieces a) ∙ (λ i. faults_from find (sym kind i) [] (pieces a))

  pub all_asked : (g : Found) (a : Algorithm) → g ≡ fold (with_piece find gives) nothing_found (pieces a) → g.asked ≡ asked a
  all_asked g a e = ap (λ h. h.asked) e ∙ asked_of nothing_found (pieces a)
