-- The answers for a piece.
use Rattle.std.proofs.Common.{zero, suc, ◌≡◌, ◌≢◌, ◌↔◌, ◌⊎◌, inl, inr, ⊎_elim, ℕ, ◌<◌, ◌≤◌, List, [], ◌∷◌, length, take, Option, Some, None, Bool, true, false, Result, Ok, Err, IfOk, IsOk, IsTrue, ap, sym, subst, ◌∙◌, refl, arith}
use Rattle.std.proofs.lemmas.List.{take_all}
use Rattle.std.proofs.lemmas.Bool.{cases_lt}
use Rattle.kumir_tree.specs.declared.form.Form.{Form}
use Rattle.kumir_tree.specs.declared.token.Token.{Token}
use Rattle.kumir_tree.specs.Pieces.{piece_of}
use Rattle.expr_forms.specs.declared.fault.PieceFault.{PieceFault}
use Rattle.expr_forms.specs.declared.fault.PieceFault.TheVariants.{Memory, NotUnderstood, TooDeep}
use Rattle.expr_forms.specs.Answers.{IsShallow, HasForm, HasNoForm}
use Rattle.kumir_tree.specs.Piece.{Piece}
use Rattle.expr_forms.specs.Brackets.{IsDeep, open_behind}
use Rattle.expr_forms.specs.Forms.{IsForm}
use Rattle.expr_forms.specs.FormReading.{whole}
use Rattle.expr_forms.proofs.Cases.{none_is}
use Rattle.expr_forms.proofs.FormSound.{whole_sound}
use Rattle.expr_forms.proofs.FormComplete.{whole_complete}

pub shallow : (ts : List Token) (b : Bool) → IsTrue b ↔ IsDeep ts → b ≡ false → IsShallow ts
shallow ts true e h d = absurd (let none : ⊥ = cc in none)
shallow ts false e h d = absurd (let t : IsTrue false = e.1 d in let none : ⊥ = cc in none)

-- what the reading of the whole ensures
pub record Whole (ts : List Token) (r : Result Form PieceFault) : Type 0 where
  pub form : IfOk r (λ f. whole ts ≡ Some (piece_of f))
  pub none : r ≡ Err NotUnderstood → whole ts ≡ None
  pub not_deep : r ≡ Err TooDeep → ⊥

no_form : (ts : List Token) → whole ts ≡ None → HasNoForm ts
no_form ts h p a = none_is (sym h ∙ whole_complete ts p a)

pub form_is : (ts : List Token) (r : Result Form PieceFault) → Whole ts r → IfOk r (λ f. IsForm ts (piece_of f))
form_is ts (Ok f) w = whole_sound ts (piece_of f) w.form
form_is ts (Err e) w = w.form

pub understood : (ts : List Token) → IsShallow ts → (r : Result Form PieceFault) → Whole ts r → r ≢ Err Memory → IsOk r ↔ (IsShallow ts × HasForm ts)
understood ts s (Ok f) w m = ((λ h. (s, (piece_of f, whole_sound ts (piece_of f) w.form))), λ h. refl)
understood ts s (Err Memory) w m = absurd (m refl)
understood ts s (Err NotUnderstood) w m = ((λ h. absurd (let none : ⊥ = cc in none)), λ h. absurd (no_form ts (w.none refl) h.1.0 h.1.1))
understood ts s (Err TooDeep) w m = absurd (w.not_deep refl)

pub not_understood : (ts : List Token) → IsShallow ts → (r : Result Form PieceFault) → Whole ts r → r ≢ Err Memory → (r ≡ Err NotUnderstood) ↔ (IsShallow ts × HasNoForm ts)
not_understood ts s (Ok f) w m = ((λ h. absurd (let none : ⊥ = cc in none)), λ h. absurd (h.1 (piece_of f) (whole_sound ts (piece_of f) w.form)))
not_understood ts s (Err Memory) w m = absurd (m refl)
not_understood ts s (Err NotUnderstood) w m = ((λ h. (s, no_form ts (w.none refl))), λ h. refl)
not_understood ts s (Err TooDeep) w m = absurd (w.not_deep refl)

-- ---- whether there is a form, and whether too many brackets are open

form_by : (ts : List Token) (o : Option Piece) → whole ts ≡ o → HasForm ts ⊎ HasNoForm ts
form_by ts None e = inr (no_form ts e)
form_by ts (Some p) e = inl (p, whole_sound ts p e)

pub form_or_none : (ts : List Token) → HasForm ts ⊎ HasNoForm ts
form_or_none ts = form_by ts (whole ts) refl

-- at each of the first places few brackets are open
abbrev FewUpTo : List Token → ℕ → Type 0
FewUpTo ts n = (k : ℕ) → k ≤ n → open_behind (take k ts) ≤ 100

deep_up_to : (ts : List Token) (n : ℕ) → IsDeep ts ⊎ FewUpTo ts n
deep_up_to ts zero = inr (λ k h. subst (λ j. open_behind (take j ts) ≤ 100) (let e : 0 ≡ k = omega arith in e) (subst (λ l. open_behind l ≤ 100) (sym (take_none ts)) (omega arith)))
  where
    take_none : (ts : List Token) → take 0 ts ≡ []
    take_none [] = refl
    take_none (t ∷ ts) = refl
deep_up_to ts (suc n) =
    ⊎_elim
    (λ (deep : IsDeep ts). inl deep)
    (λ (few : FewUpTo ts n).
    ⊎_elim
    (λ (more : 100 < open_behind (take (suc n) ts)). inl (suc n, more))
    (λ (less : open_behind (take (suc n) ts) ≤ 100). inr (λ k h. ⊎_elim (λ (below : k < suc n). few k (omega arith)) (λ (here : suc n ≤ k). subst (λ j. open_behind (take j ts) ≤ 100) (let e : suc n ≡ k = omega arith in e) less) (cases_lt k (suc n))))
    (cases_lt 100 (open_behind (take (suc n) ts))))
    (deep_up_to ts n)

few_everywhere : (ts : List Token) → FewUpTo ts (length ts) → IsShallow ts
few_everywhere ts few deep =
    ⊎_elim
    (λ (within : deep.0 < length ts). let none : ⊥ = omega (arith, few deep.0 (omega arith), deep.1) in none)
    (λ (past : length ts ≤ deep.0).
    let same : take deep.0 ts ≡ take (length ts) ts = take_all deep.0 ts past ∙ sym (take_all (length ts) ts (omega arith)) in
    let none : ⊥ = omega (arith, few (length ts) (omega arith), deep.1, ap open_behind same) in none)
    (cases_lt deep.0 (length ts))

pub deep_or_shallow : (ts : List Token) → IsDeep ts ⊎ IsShallow ts
deep_or_shallow ts = ⊎_elim (λ (deep : IsDeep ts). inl deep) (λ (few : FewUpTo ts (length ts)). inr (few_everywhere ts few)) (deep_up_to ts (length ts))
