-- Units along their spans, one more at a time.
use Rattle.std.proofs.Common.{◌≡◌, ℕ, zero, suc, ◌+◌, ◌<◌, ◌≤◌, Bool, true, false, ◌==◌, List, [], ◌∷◌, ◌++◌, length, take, get_or, map, arith, sym, ap, subst, ◌∙◌, refl}
use Rattle.std.proofs.lemmas.Bool.{eqb-true, eqb-false}
use Rattle.std.proofs.lemmas.List.{take_more, take_all, map-append}
use Rattle.kumir_tree.specs.Unit.{Known}
use Rattle.line_pieces.specs.declared.spans.LineSpan.{LineSpan}
use Rattle.incr_analysis.specs.Full.{Along}

-- whether the first unit is still to come
abbrev pub is_first : List LineSpan → Bool → Bool
is_first [] prelude = prelude
is_first (s ∷ ss) prelude = false

later : (s : LineSpan) (spans : List LineSpan) (i : ℕ) → (i ≡ 0 → ⊥) → is_first (take i (s ∷ spans)) true ≡ false
later s spans zero some = absurd (some refl)
later s spans (suc i) some = refl

first_is : (spans : List LineSpan) (i : ℕ) → i < length spans → is_first (take i spans) true ≡ (i == 0)
first_is [] i lt = absurd (omega arith)
first_is (s ∷ spans) i lt =
    elim (i == 0) as (λ t. (i == 0) ≡ t → is_first (take i (s ∷ spans)) true ≡ t) [
      | true ↦ λ e. subst (λ n. is_first (take n (s ∷ spans)) true ≡ true) (sym (eqb-true i 0 e)) refl
      | false ↦ λ e. later s spans i (eqb-false i 0 e)
    ] refl

pub along_more : (P : Bool → LineSpan → ℕ × Known → Type 0) (prelude : Bool) (spans : List LineSpan) (units : List (ℕ × Known)) (s : LineSpan) (u : ℕ × Known) → Along P prelude spans units → P (is_first spans prelude) s u → Along P prelude (spans ++ s ∷ []) (units ++ u ∷ [])
along_more P prelude [] [] s u a p = (p, tt)
along_more P prelude [] (v ∷ units) s u a p = absurd a
along_more P prelude (r ∷ spans) [] s u a p = absurd a
along_more P prelude (r ∷ []) (v ∷ units) s u a p = (a.0, along_more P false [] units s u a.1 p)
along_more P prelude (r ∷ q ∷ spans) (v ∷ units) s u a p = (a.0, along_more P false (q ∷ spans) units s u a.1 p)

-- one more span of the list, and the unit read from it
pub along_next : {X : Type 0} (placed : X → ℕ × Known) (P : Bool → LineSpan → ℕ × Known → Type 0) (spans : List LineSpan) (i : ℕ) (d : LineSpan) (units new : List X) (x : X) → i < length spans → Along P true (take i spans) (map placed units) → P (i == 0) (get_or spans i d) (placed x) → new ≡ units ++ x ∷ [] → Along P true (take (i + 1) spans) (map placed new)
along_next placed P spans i d units new x lt before p made =
    let first : is_first (take i spans) true ≡ (i == 0) = first_is spans i lt in
    let more = along_more P true (take i spans) (map placed units) (get_or spans i d) (placed x) before (subst (λ b. P b (get_or spans i d) (placed x)) (sym first) p) in
    let here : take (i + 1) spans ≡ take i spans ++ get_or spans i d ∷ [] = take_more spans i d lt in
    let seen : map placed new ≡ map placed units ++ placed x ∷ [] = ap (map placed) made ∙ map-append placed units (x ∷ []) in
    subst (λ ss. Along P true ss (map placed new)) (sym here) (subst (λ us. Along P true (take i spans ++ get_or spans i d ∷ []) us) (sym seen) more)

pub along_all : (P : Bool → LineSpan → ℕ × Known → Type 0) (spans : List LineSpan) (n : ℕ) (units : List (ℕ × Known)) → length spans ≤ n → Along P true (take n spans) units → Along P true spans units
along_all P spans n units le a = subst (λ ss. Along P true ss units) (take_all n spans le) a
