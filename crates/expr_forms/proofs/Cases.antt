-- What a reading that gave something shows: the cases of its tests.
use Rattle.std.proofs.Common.{◌≡◌, ℕ, zero, suc, Bool, true, false, ◌⊎◌, inl, inr, ⊎_elim, List, [], ◌∷◌, ◌++◌, length, drop, Option, Some, None, ap, sym, ◌∙◌, subst, refl, rules, append_assoc}
use Rattle.std.specs.Prelude.{if◌then◌else◌}
use denote.Enum.Bare.{same_true}
use Rattle.kumir_tree.specs.contracts.token.Sign as the_sign
use Rattle.kumir_tree.specs.contracts.token.Key as the_key
use Rattle.kumir_tree.specs.declared.token.Token.{Token}
use Rattle.kumir_tree.specs.declared.token.Token.TheVariants as t
use Rattle.kumir_tree.specs.declared.token.Sign.{Sign}
use Rattle.kumir_tree.specs.declared.token.Sign.TheVariants as s
use Rattle.kumir_tree.specs.declared.token.Key.{Key}
use Rattle.expr_forms.specs.Lists.{Listed, last, next}
use Rattle.expr_forms.specs.Looks.{Outcome, ◌>>=◌, mapped, sees, sees_key, same_sign, same_key}
use Rattle.expr_forms.specs.Reading.{listed_from, closed}

pub bind_ok : {A B : Type 0} (o : Option A) (f : A → Option B) (y : B) → (o >>= f) ≡ Some y → (x : A) × (o ≡ Some x) × (f x ≡ Some y)
bind_ok None f y h = absurd (let none : ⊥ = cc in none)
bind_ok (Some x) f y h = (x, refl, h)

pub chosen : {A : Type 0} (b : Bool) (p q r : A) → (if b then p else q) ≡ r → ((b ≡ true) × (p ≡ r)) ⊎ ((b ≡ false) × (q ≡ r))
chosen true p q r h = inl (refl, h)
chosen false p q r h = inr (refl, h)

pub none_is : {A X : Type 0} {x : A} → None ≡ Some x → X
none_is h = absurd (let none : ⊥ = cc in none)

pub some_is : {A : Type 0} {x y : A} → Some x ≡ Some y → x ≡ y
some_is h = cc

-- a pair that was read
pub first_is : {A : Type 0} {x y : A} {ts us : List Token} → ◌≡◌ {A = Outcome A} (Some (x, ts)) (Some (y, us)) → x ≡ y
first_is h = ap (λ r. r.0) (some_is h)

pub rest_is : {A : Type 0} {x y : A} {ts us : List Token} → ◌≡◌ {A = Outcome A} (Some (x, ts)) (Some (y, us)) → ts ≡ us
rest_is h = ap (λ r. r.1) (some_is h)

pub seen : (w : Sign) (ts : List Token) → sees w ts ≡ true → ts ≡ t.Sign w ∷ drop 1 ts
unfolding same_sign
seen w [] h = absurd (let none : ⊥ = cc in none)
seen w (t.Number x ∷ ts) h = absurd (let none : ⊥ = cc in none)
seen w (t.Named x ∷ ts) h = absurd (let none : ⊥ = cc in none)
seen w (t.Literal x ∷ ts) h = absurd (let none : ⊥ = cc in none)
seen w (t.Key x ∷ ts) h = absurd (let none : ⊥ = cc in none)
seen w (t.Sign x ∷ ts) h = ap (λ j. t.Sign j ∷ ts) (same_true the_sign.the_type (search rules) x w h)

pub seen_key : (w : Key) (ts : List Token) → sees_key w ts ≡ true → ts ≡ t.Key w ∷ drop 1 ts
unfolding same_key
seen_key w [] h = absurd (let none : ⊥ = cc in none)
seen_key w (t.Number x ∷ ts) h = absurd (let none : ⊥ = cc in none)
seen_key w (t.Named x ∷ ts) h = absurd (let none : ⊥ = cc in none)
seen_key w (t.Literal x ∷ ts) h = absurd (let none : ⊥ = cc in none)
seen_key w (t.Sign x ∷ ts) h = absurd (let none : ⊥ = cc in none)
seen_key w (t.Key x ∷ ts) h = ap (λ j. t.Key j ∷ ts) (same_true the_key.the_type (search rules) x w h)

pub closed_is : {A : Type 0} (w : Sign) (o : Outcome A) (x : A) (rest : List Token) → closed w o ≡ Some (x, rest) → o ≡ Some (x, t.Sign w ∷ rest)
unfolding closed
closed_is w None x rest h = none_is h
closed_is w (Some r) x rest h =
    ⊎_elim
    (λ (c : (sees w r.1 ≡ true) × (Some (r.0, drop 1 r.1) ≡ Some (x, rest))).
    let tail : r.1 ≡ t.Sign w ∷ rest = seen w r.1 c.0 ∙ ap (λ l. t.Sign w ∷ l) (rest_is c.1) in
    λ i. Some (first_is c.1 i, tail i))
    (λ (c : (sees w r.1 ≡ false) × (None ≡ Some (x, rest))). none_is c.1)
    (chosen (sees w r.1) (Some (r.0, drop 1 r.1)) None (Some (x, rest)) h)

pub mapped_is : {A B : Type 0} (f : A → B) (o : Outcome A) (y : B) (rest : List Token) → mapped f o ≡ Some (y, rest) → (x : A) × (o ≡ Some (x, rest)) × (f x ≡ y)
mapped_is f None y rest h = none_is h
mapped_is f (Some r) y rest h = (r.0, ap (λ l. Some (r.0, l)) (rest_is h), first_is h)

-- what is read only where this comes next
pub needs : {B : Type 0} (w : Sign) (ts : List Token) (o : Option B) (y : B) → (if sees w ts then o else None) ≡ Some y → (ts ≡ t.Sign w ∷ drop 1 ts) × (o ≡ Some y)
needs w ts o y h =
    ⊎_elim
    (λ (c : (sees w ts ≡ true) × (o ≡ Some y)). (seen w ts c.0, c.1))
    (λ (c : (sees w ts ≡ false) × (None ≡ Some y)). none_is c.1)
    (chosen (sees w ts) o None (Some y) h)

pub needs_key : {B : Type 0} (w : Key) (ts : List Token) (o : Option B) (y : B) → (if sees_key w ts then o else None) ≡ Some y → (ts ≡ t.Key w ∷ drop 1 ts) × (o ≡ Some y)
needs_key w ts o y h =
    ⊎_elim
    (λ (c : (sees_key w ts ≡ true) × (o ≡ Some y)). (seen_key w ts c.0, c.1))
    (λ (c : (sees_key w ts ≡ false) × (None ≡ Some y)). none_is c.1)
    (chosen (sees_key w ts) o None (Some y) h)

-- a front of the tokens is this
pub record Found {A : Type 0} (One : List Token → A → Type 0) (ts : List Token) (x : A) (rest : List Token) : Type 0 where
  pub front : List Token
  pub split : ts ≡ front ++ rest
  pub reads : One front x

pub record FoundMore {A : Type 0} (One : List Token → A → Type 0) (ts : List Token) (found xs : List A) (rest : List Token) : Type 0 where
  pub front : List Token
  pub more : List A
  pub split : ts ≡ front ++ rest
  pub reads : Listed One front more
  pub items : xs ≡ found ++ more

module _ (A : Type 0) (One : List Token → A → Type 0) (item : List Token → Outcome A) (H : (ts : List Token) (x : A) (rest : List Token) → item ts ≡ Some (x, rest) → Found One ts x rest) where
  listed_more : (n : ℕ) (found : List A) (ts : List Token) (xs : List A) (rest : List Token) → listed_from item n found ts ≡ Some (xs, rest) → FoundMore One ts found xs rest
  unfolding listed_from
  listed_more zero found ts xs rest h = none_is h
  listed_more (suc n) found ts xs rest h =
      let b = bind_ok (item ts) (λ x. if sees s.Comma x.1 then listed_from item n (found ++ x.0 ∷ []) (drop 1 x.1) else Some (found ++ x.0 ∷ [], x.1)) (xs, rest) h in
      let f = H ts b.0.0 b.0.1 b.1 in
      ⊎_elim
      (λ (c : (sees s.Comma b.0.1 ≡ true) × (listed_from item n (found ++ b.0.0 ∷ []) (drop 1 b.0.1) ≡ Some (xs, rest))).
      let r = listed_more n (found ++ b.0.0 ∷ []) (drop 1 b.0.1) xs rest c.1 in
      record {
        front = f.front ++ t.Sign s.Comma ∷ r.front;
        more = b.0.0 ∷ r.more;
        split = f.split ∙ ap (λ l. f.front ++ l) (seen s.Comma b.0.1 c.0 ∙ ap (λ l. t.Sign s.Comma ∷ l) r.split) ∙ sym (append_assoc f.front (t.Sign s.Comma ∷ r.front) rest);
        reads = next f.reads r.reads;
        items = r.items ∙ append_assoc found (b.0.0 ∷ []) r.more;
      })
      (λ (c : (sees s.Comma b.0.1 ≡ false) × (Some (found ++ b.0.0 ∷ [], b.0.1) ≡ Some (xs, rest))).
      record {
        front = f.front;
        more = b.0.0 ∷ [];
        split = f.split ∙ ap (λ l. f.front ++ l) (rest_is c.1);
        reads = last f.reads;
        items = sym (first_is c.1);
      })
      (chosen (sees s.Comma b.0.1) (listed_from item n (found ++ b.0.0 ∷ []) (drop 1 b.0.1)) (Some (found ++ b.0.0 ∷ [], b.0.1)) (Some (xs, rest)) b.2)

  pub listing_sound : (ts : List Token) (xs : List A) (rest : List Token) → listed_from item (length ts) [] ts ≡ Some (xs, rest) → Found (Listed One) ts xs rest
  listing_sound ts xs rest h =
      let f = listed_more (length ts) [] ts xs rest h in
      record { front = f.front; split = f.split; reads = subst (Listed One f.front) (sym f.items) f.reads }
