-- A text with a leading U+FEFF, and one without.
use Rattle.std.proofs.Common.{◌≡◌, ◌≢◌, ℕ, Bool, true, false, cond, ◌&&◌, ◌==◌, List, [], ◌∷◌, ◌++◌, drop, sym, ◌∙◌, ap, refl}
use Rattle.std.specs.Char.{encode_utf8}
use Rattle.std.specs.Str.Pattern.{HasCharAt}
use Rattle.std.proofs.lemmas.Bool.{eqb-true}
use Rattle.kumir_tree.specs.Lines.{without_mark}

marked : (rest : List ℕ) → without_mark (239 ∷ 187 ∷ 191 ∷ rest) ≡ rest
marked rest = refl

pub mark_taken : (text rest : List ℕ) (n : ℕ) → HasCharAt 65279 text 0 n → rest ≡ drop n text → rest ≡ without_mark text
unfolding encode_utf8
mark_taken text rest n at e =
    let begins : text ≡ 239 ∷ 187 ∷ 191 ∷ drop n text = at.split in
    e ∙ sym (ap without_mark begins)

all_three : (a b c : Bool) → (a && b && c) ≡ true → (a ≡ true) × (b ≡ true) × (c ≡ true)
all_three true true true h = (refl, refl, refl)
all_three true true false h = absurd (let none : ⊥ = cc in none)
all_three true false c h = absurd (let none : ⊥ = cc in none)
all_three false b c h = absurd (let none : ⊥ = cc in none)

mark_missing : (text : List ℕ) → ((rest : List ℕ) → text ≢ 239 ∷ 187 ∷ 191 ∷ rest) → text ≡ without_mark text
mark_missing [] none = refl
mark_missing (a ∷ []) none = plain (a == 239) where
  plain : (x : Bool) → a ∷ [] ≡ cond (x && false && false) [] (a ∷ [])
  plain true = refl
  plain false = refl
mark_missing (a ∷ b ∷ []) none = plain (a == 239) (b == 187) where
  plain : (x y : Bool) → a ∷ b ∷ [] ≡ cond (x && y && false) [] (a ∷ b ∷ [])
  plain true true = refl
  plain true false = refl
  plain false y = refl
mark_missing (a ∷ b ∷ c ∷ rest) none =
    elim (a == 239 && b == 187 && c == 191) as (λ t. (a == 239 && b == 187 && c == 191) ≡ t → a ∷ b ∷ c ∷ rest ≡ cond t rest (a ∷ b ∷ c ∷ rest)) [
      | true ↦ λ h.
          let each = all_three (a == 239) (b == 187) (c == 191) h in
          let first : a ≡ 239 = eqb-true a 239 each.0 in
          let second : b ≡ 187 = eqb-true b 187 each.1 in
          let third : c ≡ 191 = eqb-true c 191 each.2 in
          absurd (none rest (λ i. first i ∷ second i ∷ third i ∷ rest))
      | false ↦ λ h. refl
    ] refl

pub no_mark : (text : List ℕ) → ((rest : List ℕ) → text ≡ encode_utf8 65279 ++ rest → ⊥) → text ≡ without_mark text
unfolding encode_utf8
no_mark text none = mark_missing text none
