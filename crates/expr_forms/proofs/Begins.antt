-- With which token an expression begins.
use Rattle.std.proofs.Common.{◌≡◌, ◌<◌, Bool, true, false, List, [], ◌∷◌, ◌++◌, length, ap, ◌∙◌, refl, arith}
use Rattle.kumir_tree.specs.Tree.{Tree, Trees}
use Rattle.kumir_tree.specs.declared.token.Token.{Token}
use Rattle.kumir_tree.specs.declared.token.Token.TheVariants as t
use Rattle.kumir_tree.specs.declared.token.Sign.{Sign}
use Rattle.kumir_tree.specs.declared.token.Sign.TheVariants as s
use Rattle.kumir_tree.specs.declared.token.Key.{Key}
use Rattle.kumir_tree.specs.declared.token.Key.TheVariants as k
use Rattle.expr_forms.specs.Grammar as is
use Rattle.expr_forms.specs.Grammar.{Level, Disjunction, Conjunction, Negation, Comparison, Sum, Product, Signed, Power, Primary, Reads, ReadsAll}
use Rattle.expr_forms.specs.Looks.{is_sign, is_key, sees, sees_key, same_sign, same_key}

abbrev pub begins_some : Token → Bool
begins_some (t.Number n) = true
begins_some (t.Named x) = true
begins_some (t.Sign s.Open) = true
begins_some (t.Sign s.Plus) = true
begins_some (t.Sign s.Minus) = true
begins_some (t.Key k.Not) = true
begins_some (t.Key k.Yes) = true
begins_some (t.Key k.No) = true
begins_some (t.Key k.Result) = true
begins_some _ = false

-- what holds of the first token of an expression of the level
abbrev pub Head : Level → Token → Type 0
Head Disjunction w = begins_some w ≡ true
Head Conjunction w = begins_some w ≡ true
Head Negation w = begins_some w ≡ true
Head Comparison w = (begins_some w ≡ true) × (is_key k.Not w ≡ false)
Head Sum w = (begins_some w ≡ true) × (is_key k.Not w ≡ false)
Head Product w = (begins_some w ≡ true) × (is_key k.Not w ≡ false)
Head Signed w = (begins_some w ≡ true) × (is_key k.Not w ≡ false)
Head Power w = (begins_some w ≡ true) × (is_key k.Not w ≡ false) × (is_sign s.Minus w ≡ false) × (is_sign s.Plus w ≡ false)
Head Primary w = (begins_some w ≡ true) × (is_key k.Not w ≡ false) × (is_sign s.Minus w ≡ false) × (is_sign s.Plus w ≡ false)

pub record Begins (H : Token → Type 0) (ts : List Token) : Type 0 where
  pub head : Token
  pub tail : List Token
  pub split : ts ≡ head ∷ tail
  pub fits : H head

longer : (H : Token → Type 0) (ts us : List Token) → Begins H ts → Begins H (ts ++ us)
longer H ts us b = record { head = b.head; tail = b.tail ++ us; split = ap (λ l. l ++ us) b.split; fits = b.fits }

from_comparison : (ts : List Token) → Begins (Head Comparison) ts → Begins (Head Negation) ts
from_comparison ts b = record { head = b.head; tail = b.tail; split = b.split; fits = b.fits.0 }

from_power : (ts : List Token) → Begins (Head Power) ts → Begins (Head Signed) ts
from_power ts b = record { head = b.head; tail = b.tail; split = b.split; fits = (b.fits.0, b.fits.1) }

begins_with : (H : Token → Type 0) (w : Token) (ts : List Token) → H w → Begins H (w ∷ ts)
begins_with H w ts h = record { head = w; tail = ts; split = refl; fits = h }

pub begins : {r : Level} {ts : List Token} {x : Tree} → Reads r ts x → Begins (Head r) ts
unfolding same_sign same_key
begins (is.conjunction a) = begins a
begins (is.or {ts} {us} a b) = longer (Head Disjunction) ts (t.Key k.Or ∷ us) (begins a)
begins (is.negation a) = begins a
begins (is.and {ts} {us} a b) = longer (Head Conjunction) ts (t.Key k.And ∷ us) (begins a)
begins (is.comparison {ts} a) = from_comparison ts (begins a)
begins (is.not {ts} a) = begins_with (Head Negation) (t.Key k.Not) ts refl
begins (is.sum a) = begins a
begins (is.relation {ts} {us} w h a b) = longer (Head Comparison) ts (w ∷ us) (begins a)
begins (is.product a) = begins a
begins (is.plus {ts} {us} a b) = longer (Head Sum) ts (t.Sign s.Plus ∷ us) (begins a)
begins (is.minus {ts} {us} a b) = longer (Head Sum) ts (t.Sign s.Minus ∷ us) (begins a)
begins (is.signed a) = begins a
begins (is.times {ts} {us} a b) = longer (Head Product) ts (t.Sign s.Times ∷ us) (begins a)
begins (is.power {ts} a) = from_power ts (begins a)
begins (is.unary_minus {ts} a) = begins_with (Head Signed) (t.Sign s.Minus) ts (refl, refl)
begins (is.unary_plus {ts} a) = begins_with (Head Signed) (t.Sign s.Plus) ts (refl, refl)
begins (is.primary a) = begins a
begins (is.raised {ts} {us} a b) = longer (Head Power) ts (t.Sign s.Power ∷ us) (begins a)
begins (is.number {n}) = begins_with (Head Primary) (t.Number n) [] (refl, refl, refl, refl)
begins is.yes_word = begins_with (Head Primary) (t.Key k.Yes) [] (refl, refl, refl, refl)
begins is.no_word = begins_with (Head Primary) (t.Key k.No) [] (refl, refl, refl, refl)
begins is.result = begins_with (Head Primary) (t.Key k.Result) [] (refl, refl, refl, refl)
begins (is.named {x}) = begins_with (Head Primary) (t.Named x) [] (refl, refl, refl, refl)
begins (is.call {x} {ts} a) = begins_with (Head Primary) (t.Named x) ts (refl, refl, refl, refl)
begins (is.element {x} {ts} a) = begins_with (Head Primary) (t.Named x) ts (refl, refl, refl, refl)
begins (is.brackets {ts} a) = begins_with (Head Primary) (t.Sign s.Open) (ts ++ t.Sign s.Close ∷ []) (refl, refl, refl, refl)

pub begins_all : {ts : List Token} {xs : Trees} → ReadsAll ts xs → Begins (Head Disjunction) ts
begins_all (is.last a) = begins a
begins_all (is.next {ts} {us} a b) = longer (Head Disjunction) ts (t.Sign s.Comma ∷ us) (begins a)

-- ---- what is seen at the front of such tokens

pub some_tokens : (H : Token → Type 0) (ts : List Token) → Begins H ts → 0 < length ts
some_tokens H ts b = let l = ap length b.split in omega (arith, l)

pub sees_other : (H : Token → Type 0) (ts : List Token) (b : Begins H ts) (w : Sign) (rest : List Token) → is_sign w b.head ≡ false → sees w (ts ++ rest) ≡ false
sees_other H ts b w rest h = ap (λ l. sees w (l ++ rest)) b.split ∙ h

pub sees_other_key : (H : Token → Type 0) (ts : List Token) (b : Begins H ts) (w : Key) (rest : List Token) → is_key w b.head ≡ false → sees_key w (ts ++ rest) ≡ false
sees_other_key H ts b w rest h = ap (λ l. sees_key w (l ++ rest)) b.split ∙ h

pub not_close : (w : Token) → begins_some w ≡ true → is_sign s.Close w ≡ false
unfolding same_sign
not_close (t.Number n) h = refl
not_close (t.Named x) h = refl
not_close (t.Literal x) h = refl
not_close (t.Key x) h = refl
not_close (t.Sign s.Close) h = absurd (let none : ⊥ = cc in none)
not_close (t.Sign x) h = refl
